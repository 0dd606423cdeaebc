-- What a section does to a pass (handle) at its beginning and at its end, and what a read does to it.
-- Source: this project's own; the kernel's readers walk between rcu_read_lock and rcu_read_unlock.
use Rattle.std.specs.Prelude.{◌≡◌, ℕ, ◌+◌, ◌≤◌, [], ◌∷◌, ◌++◌, None, length}
use Rattle.mt_base.specs.Passes as known
use Rattle.mt_read.specs.Prelude.{PassPart, HasBecome, with_seen, opened_section, closed_section}

-- The section was opened at the number of ended calls. The handle has seen all of these, and at most one more.
pub record Began (epoch : ℕ) (q q' : PassPart) : Type 0 where
  pub is : HasBecome q' (opened_section (record (with_seen q q'.seen) { epoch = epoch; ended = epoch }))
  pub seen : known.Begins q.seen q'.seen
  pub before : q.ended ≤ epoch
  pub most : epoch ≤ length q'.seen
  pub least : length q'.seen ≤ epoch + 1

-- The number of begun calls was loaded, which is no less than the handle knows of, and the section was closed.
pub record Ended (begun : ℕ) (q q' : PassPart) : Type 0 where
  pub is : HasBecome q' (closed_section (record q { begun = begun }))
  pub seen : length q.seen ≤ begun
  pub before : q.begun ≤ begun
  pub risen : q.risen ≤ begun

-- The handle has opened a section at lo and closed it, and now knows that hi calls have begun and lo have ended.
pub record HasRead (lo hi : ℕ) (p q : known.Pass) : Type 0 where
  pub seen : known.Begins p.seen q.seen
  pub pass : q ≡ record p { seen = q.seen; opened = p.opened ++ lo ∷ []; standing = None; begun = hi; ended = lo }
  pub window : (lo ≤ length q.seen) × (length q.seen ≤ hi)
