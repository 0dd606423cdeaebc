-- The result of a run, in one line: how often each word was returned, and how many ranges there are at the end.
-- Source: this project's own.
use Rattle.std.specs.Prelude.{ℕ, List, ◌++◌, count_by, sum_by, length, codes, decimal, bytes_eq}
use Rattle.mt_workload.specs.Prelude.{Reply, Answer, Entry, Said, Wrote, Got, Lawful, Copied, Transcript}
use Rattle.mt_base.specs.declared.replies.Reply.TheVariants as replies
use Rattle.mt_log.specs.declared.transcripts.Answer.TheVariants as answers
use Rattle.mt_workload.specs.declared.summaries.Summary.{Summary}

-- a store counts as done, whatever it overwrote
abbrev pub reply_word : Reply → List ℕ
reply_word replies.Ok = codes "ok"
reply_word (replies.Over entry) = codes "ok"
reply_word (replies.Start start) = codes "start"
reply_word (replies.Was range) = codes "was"
reply_word replies.None = codes "none"
reply_word replies.Exists = codes "exists"
reply_word replies.Invalid = codes "invalid"
reply_word replies.Busy = codes "busy"
reply_word (replies.NoNodes shortage) = codes "nomem"

abbrev pub answer_word : Answer → List ℕ
answer_word answers.None = codes "none"
answer_word (answers.Entry entry) = codes "entry"
answer_word (answers.Range range) = codes "range"

-- the word of an entry (a line of the transcript)
abbrev pub said_word : Said → List ℕ
said_word (Wrote call reply) = reply_word reply
said_word (Got lo hi value) = answer_word value
said_word (Lawful count) = codes "lawful"
said_word (Copied count) = codes "copied"

-- how many entries have this word
abbrev pub times_told : List ℕ → List Entry → ℕ
times_told word entries = count_by (λ e. bytes_eq (said_word e.said) word) entries

-- the summary of these entries of a log with this many steps
abbrev pub told : ℕ → List Entry → Summary
told steps entries = record {
  steps = steps;
  ok = times_told (codes "ok") entries;
  start = times_told (codes "start") entries;
  was = times_told (codes "was") entries;
  none = times_told (codes "none") entries;
  exists = times_told (codes "exists") entries;
  invalid = times_told (codes "invalid") entries;
  busy = times_told (codes "busy") entries;
  nomem = times_told (codes "nomem") entries;
  entry = times_told (codes "entry") entries;
  range = times_told (codes "range") entries;
  ranges = 0;
}

-- the summary of a transcript: its entries, and how many ranges its trees have at the end
abbrev pub counted : ℕ → Transcript → Summary
counted steps t = record (told steps t.entries) { ranges = sum_by (λ l. length l.ranges) t.lists }

-- a summary in print
abbrev pub summary_text : Summary → List ℕ
summary_text s =
    codes "trial " ++ (decimal s.steps
    ++ (codes " ok " ++ (decimal s.ok
    ++ (codes " start " ++ (decimal s.start
    ++ (codes " was " ++ (decimal s.was
    ++ (codes " none " ++ (decimal s.none
    ++ (codes " exists " ++ (decimal s.exists
    ++ (codes " invalid " ++ (decimal s.invalid
    ++ (codes " busy " ++ (decimal s.busy
    ++ (codes " nomem " ++ (decimal s.nomem
    ++ (codes " entry " ++ (decimal s.entry
    ++ (codes " range " ++ (decimal s.range
    ++ (codes " ranges " ++ decimal s.ranges))))))))))))))))))))))
