-- A summary that is counted entry by entry.
-- Source: this project's own.
use Rattle.std.specs.Prelude.{ℕ, List, ◌+◌, ◌<◌, codes, if◌then◌else◌, bytes_eq}
use Rattle.mt_workload.specs.declared.summaries.Summary.{Summary}

-- with one more entry of this word
abbrev pub with_one_counted : List ℕ → Summary → Summary
with_one_counted word s = record {
  steps = s.steps;
  ok = (if bytes_eq word (codes "ok") then s.ok + 1 else s.ok);
  start = (if bytes_eq word (codes "start") then s.start + 1 else s.start);
  was = (if bytes_eq word (codes "was") then s.was + 1 else s.was);
  none = (if bytes_eq word (codes "none") then s.none + 1 else s.none);
  exists = (if bytes_eq word (codes "exists") then s.exists + 1 else s.exists);
  invalid = (if bytes_eq word (codes "invalid") then s.invalid + 1 else s.invalid);
  busy = (if bytes_eq word (codes "busy") then s.busy + 1 else s.busy);
  nomem = (if bytes_eq word (codes "nomem") then s.nomem + 1 else s.nomem);
  entry = (if bytes_eq word (codes "entry") then s.entry + 1 else s.entry);
  range = (if bytes_eq word (codes "range") then s.range + 1 else s.range);
  ranges = s.ranges;
}

-- each of its counts is below this
pub record AreBelow (bound : ℕ) (s : Summary) : Type 0 where
  pub ok : s.ok < bound
  pub start : s.start < bound
  pub was : s.was < bound
  pub none : s.none < bound
  pub exists : s.exists < bound
  pub invalid : s.invalid < bound
  pub busy : s.busy < bound
  pub nomem : s.nomem < bound
  pub entry : s.entry < bound
  pub range : s.range < bound
