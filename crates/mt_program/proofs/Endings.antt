-- How a run that prints ends, by how its printing ended.
use Rattle.mt_program.proofs.Prelude.{◌≡◌, ◌∙◌, ℕ, List, Option, Some, None, Result, Ok, Err, ap, ap₂, inr, IsErrAnd, length, refl, subst, sym, log_of, IsRun, Log, Transcript, AreLeastPoints, count_of_calls, reads_told, reads_are_points, Command, Replay, Make, Trial, Verify, Image, Show, Bulk, Ids, Ends, EndsMaking, EndsPrint, EndsReading, FailsOn, HasEnded, Streams, input_limit, IsOutput, IsVerifiedText, verified_text, ReadsAll, parts_at_cut, RefusesBytes, Failure}
use Rattle.mt_program.specs.declared.failures.Failure.TheVariants as failures

-- what a command prints of its bytes went to the sink
pub reading_ends : (command : Command) (result : Result (Unit {0}) Failure) (old new : Streams) (bytes text : List ℕ) → ReadsAll (input_limit command) old.left new.left bytes
    → IsOutput command bytes text → EndsPrint text result old.written new.written old.sink_faults new.sink_faults → EndsReading command result old new
reading_ends command (Ok done) old new bytes text all is wrote = (bytes, text, all, is, wrote)
reading_ends command (Err failure) old new bytes text all is (kind, part, rest, split, wrote, rose) =
    let P : Failure → Type 0 = λ f. EndsReading command (Err f) old new in
    subst P (sym kind) (bytes, part, rest, all, subst (IsOutput command bytes) split is, wrote, rose)

-- no bytes are the cause of these failures
record IsOfBytes (Refused : Failure → Type 0) : Type 0 where
  pub usage : Refused failures.Usage → ⊥
  pub read_fault : Refused failures.ReadFault → ⊥
  pub write_fault : Refused failures.WriteFault → ⊥
  pub too_long : Refused failures.TooLong → ⊥

of_bytes : (command : Command) (bytes : List ℕ) → IsOfBytes (RefusesBytes command bytes)
of_bytes (Replay rows) bytes = record { usage = λ no. no; read_fault = λ no. no; write_fault = λ no. no; too_long = λ no. no }
of_bytes (Make number steps lanes) bytes = record { usage = λ no. no; read_fault = λ no. no; write_fault = λ no. no; too_long = λ no. no }
of_bytes (Trial number steps) bytes = record { usage = λ no. no; read_fault = λ no. no; write_fault = λ no. no; too_long = λ no. no }
of_bytes (Verify rows) bytes = record { usage = λ no. no; read_fault = λ no. no; write_fault = λ no. no; too_long = λ no. no }
of_bytes (Image rows) bytes = record { usage = λ no. no; read_fault = λ no. no; write_fault = λ no. no; too_long = λ no. no }
of_bytes Show bytes = record { usage = λ no. no; read_fault = λ no. no; write_fault = λ no. no; too_long = λ no. no }
of_bytes (Bulk workers) bytes = record { usage = λ no. no; read_fault = λ no. no; write_fault = λ no. no; too_long = λ no. no }
of_bytes (Ids lo hi steps drops) bytes = record { usage = λ no. no; read_fault = λ no. no; write_fault = λ no. no; too_long = λ no. no }

-- the bytes were refused, or memory ran out
pub refused_ends : (command : Command) (failure : Failure) (old new : Streams) (bytes : List ℕ) → ReadsAll (input_limit command) old.left new.left bytes
    → FailsOn (RefusesBytes command) bytes failure → EndsReading command (Err failure) old new
refused_ends command (failures.BadLog line why) old new bytes all is = (bytes, all, is)
refused_ends command (failures.NoTranscript line) old new bytes all is = (bytes, all, is)
refused_ends command (failures.NoTree line) old new bytes all is = (bytes, all, is)
refused_ends command (failures.NotBuilt line why) old new bytes all is = (bytes, all, is)
refused_ends command failures.Refused old new bytes all is = (bytes, all, is)
refused_ends command (failures.BadImage error) old new bytes all is = (bytes, all, is)
refused_ends command failures.NoMemory old new bytes all is = tt
refused_ends command failures.Usage old new bytes all is = absurd ((of_bytes command bytes).usage is)
refused_ends command failures.ReadFault old new bytes all is = absurd ((of_bytes command bytes).read_fault is)
refused_ends command failures.WriteFault old new bytes all is = absurd ((of_bytes command bytes).write_fault is)
refused_ends command failures.TooLong old new bytes all is = absurd ((of_bytes command bytes).too_long is)

-- a text that was made went to the sink
pub making_ends : (IsText : List ℕ → Type 0) (result : Result (Unit {0}) Failure) (before after : Option (List ℕ)) (faults_before faults_after : ℕ) (text : List ℕ) → IsText text
    → EndsPrint text result before after faults_before faults_after → EndsMaking IsText result before after faults_before faults_after
making_ends IsText (Ok done) before after faults_before faults_after text is wrote = (text, is, wrote)
making_ends IsText (Err failure) before after faults_before faults_after text is (kind, part, rest, split, wrote, rose) =
    let P : Failure → Type 0 = λ f. EndsMaking IsText (Err f) before after faults_before faults_after in
    subst P (sym kind) (part, rest, subst IsText split is, wrote, rose)

-- a run that failed so
pub fails_so : (command : Command) (result : Result (Unit {0}) Failure) (failure : Failure) (old new : Streams) → IsErrAnd result (λ e. e ≡ failure) → EndsReading command (Err failure) old new
    → EndsReading command result old new
fails_so command (Ok done) failure old new is ends = absurd is
fails_so command (Err e) failure old new is ends = let P : Failure → Type 0 = λ f. EndsReading command (Err f) old new in subst P (sym is) ends

-- memory ran out before anything was done
memory_ends : (command : Option Command) (old new : Streams) → Ends command (Err failures.NoMemory) old new
memory_ends None old new = inr refl
memory_ends (Some (Replay rows)) old new = tt
memory_ends (Some (Make number steps lanes)) old new = refl
memory_ends (Some (Trial number steps)) old new = refl
memory_ends (Some (Verify rows)) old new = tt
memory_ends (Some (Image rows)) old new = tt
memory_ends (Some Show) old new = tt
memory_ends (Some (Bulk workers)) old new = tt
memory_ends (Some (Ids lo hi steps drops)) old new = refl

pub has_no_memory : (command : Option Command) (result : Result (Unit {0}) Failure) (old new : Streams) → IsErrAnd result (λ e. e ≡ failures.NoMemory) → HasEnded command result old new
has_no_memory command (Ok done) old new is = absurd is
has_no_memory command (Err e) old new is = record { ends = subst (λ (f : Failure). Ends command (Err f) old new) (sym is) (memory_ends command old new) }

-- a transcript that is one of a run, by the points of its reads
pub verified_is : (rows : ℕ) (bytes front text : List ℕ) (log : Log) (points : List ℕ) (calls reads : ℕ) (printed : List ℕ) → parts_at_cut bytes ≡ Some (front, text) → log_of front ≡ Ok log
    → AreLeastPoints log rows text points → ((n : ℕ) (t : Transcript) → IsRun log n t → count_of_calls t ≡ calls) → reads ≡ length points → printed ≡ verified_text calls reads
    → IsVerifiedText rows bytes printed
verified_is rows bytes front text log points calls reads printed cut is least told counted shown =
    let t : Transcript = least.transcript in
    let run : IsRun log rows t = (least.told.steps, least.told.trees, least.told.run) in
    let all_calls : calls ≡ count_of_calls t = sym (told rows t run) in
    let all_reads : reads ≡ reads_told t = counted ∙ sym (reads_are_points log rows t points least.told) in (
      log,
      t,
      (front, cut ∙ ap (λ (x : List ℕ). Some (front, x)) least.printed, is),
      run,
      shown ∙ ap₂ verified_text all_calls all_reads,
    )
