-- A worked play, step by step.
use Rattle.mt_linearize.proofs.Prelude.{true, false, List, [], ◌∷◌, Some, arith, refl, Range, Record, History, Transcript, KnownTree, Called, Looked, Counted, Step, AreDone, IsRun, steps_of, Declared, Empty, CopyOf, HasPlayed, IsNext, step_of_line, most_rows}
use Rattle.mt_base.specs.declared.kinds.Kind.TheVariants as kinds
use Rattle.mt_base.specs.declared.calls.Call.TheVariants as calls
use Rattle.mt_base.specs.declared.calls.Query.TheVariants as queries
use Rattle.mt_base.specs.declared.replies.Reply.TheVariants as replies
use Rattle.mt_log.specs.declared.transcripts.Answer.TheVariants as answers
use Rattle.mt_log.specs.declared.transcripts.Said.TheVariants as said
use Rattle.mt_linearize.specs.Worked.{worked_log}
use Rattle.mt_linearize.proofs.Answered.{done_is_next}
use Rattle.mt_linearize.proofs.Played.{call_played, copy_played, count_played, nothing_played, phase_played, played_is_run, read_played, tree_played}

abbrev tree_a : KnownTree
tree_a = record { name = 97 ∷ []; kind = kinds.Range }

abbrev tree_b : KnownTree
tree_b = record { name = 98 ∷ []; kind = kinds.Range }

abbrev first_call : Record
first_call = record { pass = 0; call = calls.Store 0 9 1; reply = replies.Ok }

abbrev second_call : Record
second_call = record { pass = 0; call = calls.Store 5 5 3; reply = replies.Over 1 }

abbrev one_range : List Range
one_range = record { first = 0; last = 9; entry = 1 } ∷ []

abbrev three_ranges : List Range
three_ranges = record { first = 0; last = 4; entry = 1 } ∷ record { first = 5; last = 5; entry = 3 } ∷ record { first = 6; last = 9; entry = 1 } ∷ []

abbrev a_after : List Record → History
a_after records = record { kind = kinds.Range; rows = most_rows; opening = []; records = records }

abbrev b_copied : History
b_copied = record { kind = kinds.Range; rows = most_rows; opening = one_range; records = [] }

abbrev a_declared : Declared
a_declared = record { tree = tree_a; opening = Empty }

abbrev b_declared : Declared
b_declared = record { tree = tree_b; opening = CopyOf 0 1 }

abbrev stored : Step
stored = step_of_line 0 0 3 0 (Called 1 (calls.Store 0 9 1) replies.Ok)

abbrev copied : Step
copied = step_of_line 1 0 5 0 (Counted said.Copied one_range)

abbrev stored_again : Step
stored_again = step_of_line 1 0 6 0 (Called 2 (calls.Store 5 5 3) (replies.Over 1))

abbrev loaded : Step
loaded = step_of_line 1 0 7 1 (Looked 0 0 0 (queries.Load 5) (Some (record { first = 0; last = 9; entry = 1 })))

next_one : IsNext (a_after []) first_call one_range
next_one = done_is_next (a_after []) 0 (calls.Store 0 9 1) one_range replies.Ok refl

next_two : IsNext (a_after (first_call ∷ [])) second_call three_ranges
next_two = done_is_next (a_after (first_call ∷ [])) 0 (calls.Store 5 5 3) three_ranges (replies.Over 1) refl

after_store : HasPlayed 1 most_rows 0 true (a_declared ∷ []) (stored ∷ []) (a_after (first_call ∷ []) ∷ [])
after_store =
    let empty : HasPlayed 1 most_rows 0 false (a_declared ∷ []) [] (a_after [] ∷ []) = tree_played 1 most_rows 0 false [] [] [] tree_a (nothing_played 1 most_rows (omega arith)) in
    call_played 1 most_rows 0 false (a_declared ∷ []) [] (a_after [] ∷ []) 0 3 0 (a_after []) (calls.Store 0 9 1) replies.Ok one_range empty refl (omega arith) next_one

after_dup : HasPlayed 1 most_rows 1 false (a_declared ∷ b_declared ∷ []) (stored ∷ copied ∷ []) (a_after (first_call ∷ []) ∷ b_copied ∷ [])
after_dup =
    let joined : HasPlayed 1 most_rows 1 false (a_declared ∷ []) (stored ∷ []) (a_after (first_call ∷ []) ∷ []) = phase_played 1 most_rows 0 true (a_declared ∷ []) (stored ∷ []) (a_after (first_call ∷ []) ∷ []) after_store in
    let counted : HasPlayed 1 most_rows 1 false (a_declared ∷ []) (stored ∷ copied ∷ []) (a_after (first_call ∷ []) ∷ []) = count_played 1 most_rows 1 (a_declared ∷ []) (stored ∷ []) (a_after (first_call ∷ []) ∷ []) 5 0 (a_after (first_call ∷ [])) said.Copied joined refl in
    copy_played 1 most_rows 1 (a_declared ∷ []) (stored ∷ copied ∷ []) (a_after (first_call ∷ []) ∷ []) tree_b 0 (a_after (first_call ∷ [])) counted refl refl

pub worked : HasPlayed 1 most_rows 1 true (a_declared ∷ b_declared ∷ []) (stored ∷ copied ∷ stored_again ∷ loaded ∷ []) (a_after (first_call ∷ second_call ∷ []) ∷ b_copied ∷ [])
worked =
    let called : HasPlayed 1 most_rows 1 true (a_declared ∷ b_declared ∷ []) (stored ∷ copied ∷ stored_again ∷ []) (a_after (first_call ∷ second_call ∷ []) ∷ b_copied ∷ []) = call_played 1 most_rows 1 false (a_declared ∷ b_declared ∷ []) (stored ∷ copied ∷ []) (a_after (first_call ∷ []) ∷ b_copied ∷ []) 0 6 0 (a_after (first_call ∷ [])) (calls.Store 5 5 3) (replies.Over 1) three_ranges after_dup refl (omega arith) next_two in
    read_played 1 most_rows 1 true (a_declared ∷ b_declared ∷ []) (stored ∷ copied ∷ stored_again ∷ []) (a_after (first_call ∷ second_call ∷ []) ∷ b_copied ∷ []) 0 7 1 b_copied (queries.Load 5) called refl (omega arith)

-- ---- and what is told of it

abbrev worked_transcript : Transcript
worked_transcript = record {
  version = 2;
  entries = record { line = 3; said = said.Wrote 1 replies.Ok } ∷ record { line = 5; said = said.Copied 1 } ∷ record { line = 6; said = said.Wrote 2 (replies.Over 1) } ∷ record { line = 7; said = said.Got 0 0 (answers.Entry 1) } ∷ [];
  lists = record { name = 97 ∷ []; kind = kinds.Range; ranges = three_ranges } ∷ record { name = 98 ∷ []; kind = kinds.Range; ranges = one_range } ∷ [];
}

worked_done : AreDone (steps_of worked_log.lines) (stored ∷ copied ∷ stored_again ∷ loaded ∷ [])
worked_done = (
  stored ∷ [],
  copied ∷ stored_again ∷ loaded ∷ [],
  refl,
  (1, replies.Ok, refl),
  (
    copied ∷ [],
    stored_again ∷ loaded ∷ [],
    refl,
    (one_range, refl),
    (stored_again ∷ [], loaded ∷ [], refl, (2, replies.Over 1, refl), (loaded ∷ [], [], refl, (0, 0, 0, Some (record { first = 0; last = 9; entry = 1 }), refl), refl)),
  ),
)

pub worked_run : IsRun worked_log most_rows worked_transcript
worked_run = played_is_run 1 most_rows 1 true worked_log worked_transcript (stored ∷ copied ∷ stored_again ∷ loaded ∷ []) (a_after (first_call ∷ second_call ∷ []) ∷ b_copied ∷ []) worked worked_done refl refl refl
