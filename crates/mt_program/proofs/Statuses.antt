-- From how a run ended to what its status says.
use Rattle.mt_program.proofs.Prelude.{◌≡◌, ◌≢◌, ◌⊎◌, ◌<◌, ◌≤◌, ◌++◌, ◌∙◌, ℕ, Bool, true, false, List, [], length, Option, Some, None, Result, Ok, Err, refl, sym, ap, subst, inl, inr, arith, append-nil, length-append, true≢false, IfSome, OnOk, is_ok, Appends, Consumes, IsAtEnd, Consumes-nil, ImageError, image_in, Rose, text_of, Command, Replay, Make, Trial, Verify, Image, Show, Bulk, Ids, Ends, EndsMaking, EndsReading, Fails, FailsToRead, HasEnded, RefusesInput, Streams, input_limit, longest, reads, ReadsTooMany, ReadsWithin, status_of, IsOutput, Prints, WritesOutput, WritesPart, ReadsAll, HasTurned, HaveTurned, IsBuiltBy, IsTurnedLog, IsDue, AreBytesRefused, AreBytesTaken, IsToldOf, IsUnverified, RefusesBytes, TakesBytes, Failure}
use Rattle.mt_program.specs.declared.failures.Failure.TheVariants as failures
use Rattle.mt_program.proofs.FirstTrees.{has_tree}

-- ---- what holds by the command

-- a command takes the bytes of which it prints something
takes : (command : Command) (bytes text : List ℕ) → IsOutput command bytes text → TakesBytes command bytes
takes (Replay rows) bytes text (log, is, told) = ap (λ r. is_ok r) is
takes (Make number steps lanes) bytes text made = tt
takes (Trial number steps) bytes text tried = tt
takes (Verify rows) bytes text (log, t, parts, run, told) = (log, text_of t, parts, (t, run, refl))
takes (Image rows) bytes text (log, is, image) = (log, is, has_tree rows log text image)
takes Show bytes text (x, is, told) = ap (λ r. is_ok r) is
takes (Bulk workers) bytes text (l, listed, fits, image) = (l, listed, fits)
takes (Ids lo hi steps drops) bytes text tried = tt

module _ (old new : Streams) where
  -- a command reads the source, or makes its text of its words alone
  ends_reading : (command : Command) (result : Result (Unit {0}) Failure) → reads (Some command) ≡ true → Ends (Some command) result old new → EndsReading command result old new
  ends_reading (Replay rows) result read ends = ends
  ends_reading (Make number steps lanes) result read ends = absurd (true≢false (sym read))
  ends_reading (Trial number steps) result read ends = absurd (true≢false (sym read))
  ends_reading (Verify rows) result read ends = ends
  ends_reading (Image rows) result read ends = ends
  ends_reading Show result read ends = ends
  ends_reading (Bulk workers) result read ends = ends
  ends_reading (Ids lo hi steps drops) result read ends = absurd (true≢false (sym read))

  ends_making : (command : Command) (result : Result (Unit {0}) Failure) → reads (Some command) ≡ false → Ends (Some command) result old new
      → EndsMaking (Prints command old.left) result old.written new.written old.sink_faults new.sink_faults
  ends_making (Replay rows) result unread ends = absurd (true≢false unread)
  ends_making (Make number steps lanes) result unread ends = ends
  ends_making (Trial number steps) result unread ends = ends
  ends_making (Verify rows) result unread ends = absurd (true≢false unread)
  ends_making (Image rows) result unread ends = absurd (true≢false unread)
  ends_making Show result unread ends = absurd (true≢false unread)
  ends_making (Bulk workers) result unread ends = absurd (true≢false unread)
  ends_making (Ids lo hi steps drops) result unread ends = ends

-- a command that makes its text takes any bytes
takes_any : (command : Command) (bytes : List ℕ) → reads (Some command) ≡ false → TakesBytes command bytes
takes_any (Replay rows) bytes unread = absurd (true≢false unread)
takes_any (Make number steps lanes) bytes unread = tt
takes_any (Trial number steps) bytes unread = tt
takes_any (Verify rows) bytes unread = absurd (true≢false unread)
takes_any (Image rows) bytes unread = absurd (true≢false unread)
takes_any Show bytes unread = absurd (true≢false unread)
takes_any (Bulk workers) bytes unread = absurd (true≢false unread)
takes_any (Ids lo hi steps drops) bytes unread = tt

-- ---- what was read and written, where the bytes are known

known_all : (limit : ℕ) (left rest : Option (List ℕ)) (bytes : List ℕ) → ReadsAll limit left rest bytes → (left ≡ None) ⊎ (left ≡ Some bytes)
known_all limit None rest bytes all = inl refl
known_all limit (Some xs) None bytes all = absurd all.taken
known_all limit (Some xs) (Some ys) bytes all = inr (ap Some (all.taken ∙ ap (λ tail. bytes ++ tail) all.at_end ∙ append-nil bytes))

-- what holds of all the bytes that were read holds of those that were left
known : (limit : ℕ) (left rest : Option (List ℕ)) (bytes : List ℕ) (P : List ℕ → Type 0) → ReadsAll limit left rest bytes → P bytes → IfSome left P
known limit left rest bytes P all holds = elim (known_all limit left rest bytes all) [
  | inl none ↦ subst (λ (l : Option (List ℕ)). IfSome l P) (sym none) tt
  | inr some ↦ subst (λ (l : Option (List ℕ)). IfSome l P) (sym some) holds
]

-- a command's own text is what it prints, by the bytes that were left
prints : (command : Command) (limit : ℕ) (left rest : Option (List ℕ)) (bytes text : List ℕ) → ReadsAll limit left rest bytes → IsOutput command bytes text → Prints command left text
prints (Replay rows) limit left rest bytes text all is = known limit left rest bytes (λ b. IsOutput (Replay rows) b text) all is
prints (Make number steps lanes) limit left rest bytes text all is = is
prints (Trial number steps) limit left rest bytes text all is = is
prints (Verify rows) limit left rest bytes text all is = known limit left rest bytes (λ b. IsOutput (Verify rows) b text) all is
prints (Image rows) limit left rest bytes text all is = known limit left rest bytes (λ b. IsOutput (Image rows) b text) all is
prints Show limit left rest bytes text all is = known limit left rest bytes (λ b. IsOutput Show b text) all is
prints (Bulk workers) limit left rest bytes text all is = known limit left rest bytes (λ b. IsOutput (Bulk workers) b text) all is
prints (Ids lo hi steps drops) limit left rest bytes text all is = is

-- what holds of all bytes holds of those that were left
any_known : (left : Option (List ℕ)) (P : List ℕ → Type 0) → ((bytes : List ℕ) → P bytes) → IfSome left P
any_known None P all = tt
any_known (Some bytes) P all = all bytes

appended_to : (after : Option (List ℕ)) (held bytes : List ℕ) → Appends (Some held) after bytes → after ≡ Some (held ++ bytes)
appended_to None held bytes wrote = absurd wrote
appended_to (Some xs) held bytes wrote = ap Some wrote

appended : (before after : Option (List ℕ)) (held bytes : List ℕ) → Appends before after bytes → before ≡ Some held → after ≡ Some (held ++ bytes)
appended before after held bytes wrote is = appended_to after held bytes (subst (λ (b : Option (List ℕ)). Appends b after bytes) is wrote)

-- failures of which the bytes are the cause
abbrev is_refusal : Failure → Bool
is_refusal (failures.BadLog line why) = true
is_refusal (failures.NoTranscript line) = true
is_refusal (failures.NoTree line) = true
is_refusal (failures.NotBuilt line why) = true
is_refusal failures.Usage = false
is_refusal failures.ReadFault = false
is_refusal failures.WriteFault = false
is_refusal failures.NoMemory = false
is_refusal failures.TooLong = false
is_refusal failures.Refused = true
is_refusal (failures.BadImage error) = true

-- failures of which the source, or its bytes, are the cause
abbrev of_source : Failure → Bool
of_source (failures.BadLog line why) = true
of_source (failures.NoTranscript line) = true
of_source (failures.NoTree line) = true
of_source (failures.NotBuilt line why) = true
of_source failures.Refused = true
of_source (failures.BadImage error) = true
of_source failures.Usage = false
of_source failures.ReadFault = true
of_source failures.WriteFault = false
of_source failures.NoMemory = false
of_source failures.TooLong = true

-- where nothing was read, no more was read than an input may have
reads_nothing : (limit : ℕ) (left rest : Option (List ℕ)) → rest ≡ left → ReadsWithin limit left rest
reads_nothing limit left rest kept = ([], subst (λ (r : Option (List ℕ)). Consumes left r []) (sym kept) (Consumes-nil left), omega arith)

-- more was left than an input may have
longer : (limit : ℕ) (bytes : List ℕ) (rest : Option (List ℕ)) → ReadsTooMany limit (Some bytes) rest → limit < length bytes
longer limit bytes None (read, taken, long) = absurd taken
longer limit bytes (Some more) (read, taken, long) = omega (arith, ap length taken, length-append read more, long)

abbrev IsUnread : Option Command → Type 0
IsUnread command = reads command ≡ true → ⊥

never_reads : (command : Option Command) → reads command ≡ false → IsUnread command
never_reads command unread read = true≢false (sym read ∙ unread)

-- a command whose output was printed whole, or as far as this part
pub record Printed (old new : Streams) (command : Command) (part rest : List ℕ) : Type 0 where
  pub prints : Prints command old.left (part ++ rest)
  pub wrote : Appends old.written new.written part
  pub taken : IfSome old.left (TakesBytes command)
  pub due : reads (Some command) ≡ true → IfSome old.left (λ bytes. IsDue command bytes 0)
  pub ended : reads (Some command) ≡ true → IsAtEnd new.left
  pub within : reads (Some command) ≡ true → ReadsWithin (input_limit command) old.left new.left

-- a command that failed for a cause of its source, or of the bytes that this gave
pub record Failed (old new : Streams) (command : Command) (failure : Failure) : Type 0 where
  pub read : reads (Some command) ≡ true
  pub cause : FailsToRead (input_limit command) (RefusesBytes command) failure old.left new.left old.source_faults new.source_faults

module _ (old new : Streams) where
  of_reading : (command : Command) (bytes part rest : List ℕ) → ReadsAll (input_limit command) old.left new.left bytes → IsOutput command bytes (part ++ rest) → Appends old.written new.written part
      → Printed old new command part rest
  of_reading command bytes part rest all is wrote = record {
    prints = prints command (input_limit command) old.left new.left bytes (part ++ rest) all is;
    wrote = wrote;
    taken = known (input_limit command) old.left new.left bytes (TakesBytes command) all (takes command bytes (part ++ rest) is);
    due = λ _. known (input_limit command) old.left new.left bytes (λ b. IsDue command b 0) all (inr (all.within, inl (takes command bytes (part ++ rest) is, refl)));
    ended = λ _. all.at_end;
    within = λ _. (bytes, all.taken, all.within);
  }

  of_making : (command : Command) (part rest : List ℕ) → reads (Some command) ≡ false → Prints command old.left (part ++ rest) → Appends old.written new.written part
      → Printed old new command part rest
  of_making command part rest unread is wrote =
      let never = never_reads (Some command) unread in
      record {
        prints = is;
        wrote = wrote;
        taken = any_known old.left (TakesBytes command) (λ bytes. takes_any command bytes unread);
        due = λ read. absurd (never read);
        ended = λ read. absurd (never read);
        within = λ read. absurd (never read);
      }

  -- a run that is done
  done_by : (command : Command) (read : Bool) → reads (Some command) ≡ read → Ends (Some command) (Ok tt) old new → (text : List ℕ) × Printed old new command text []
  done_by command true read ends =
      let (bytes, text, all, is, wrote) = ends_reading old new command (Ok tt) read ends in
      (text, of_reading command bytes text [] all (subst (IsOutput command bytes) (sym (append-nil text)) is) wrote)
  done_by command false unread ends =
      let (text, is, wrote) = ends_making old new command (Ok tt) unread ends in
      (text, of_making command text [] unread (subst (Prints command old.left) (sym (append-nil text)) is) wrote)

  pub done : (command : Option Command) → Ends command (Ok tt) old new → (c : Command) × (command ≡ Some c) × (text : List ℕ) × Printed old new c text []
  done None ends = elim ends [ inl e ↦ absurd (cc) | inr e ↦ absurd (cc) ]
  done (Some command) ends = let (text, printed) = done_by command (reads (Some command)) refl ends in (command, refl, text, printed)

  -- a run whose printing failed
  broken_by : (command : Command) (read : Bool) → reads (Some command) ≡ read → Ends (Some command) (Err failures.WriteFault) old new
      → (part rest : List ℕ) × Printed old new command part rest × Rose old.sink_faults new.sink_faults
  broken_by command true read ends =
      let (bytes, part, rest, all, is, wrote, rose) = ends_reading old new command (Err failures.WriteFault) read ends in
      (part, rest, of_reading command bytes part rest all is wrote, rose)
  broken_by command false unread ends =
      let (part, rest, is, wrote, rose) = ends_making old new command (Err failures.WriteFault) unread ends in
      (part, rest, of_making command part rest unread is wrote, rose)

  pub broken : (command : Option Command) → Ends command (Err failures.WriteFault) old new
      → (c : Command) × (command ≡ Some c) × (part rest : List ℕ) × Printed old new c part rest × Rose old.sink_faults new.sink_faults
  broken None ends = elim ends [ inl e ↦ absurd (cc) | inr e ↦ absurd (cc) ]
  broken (Some command) ends = let (part, rest, printed, rose) = broken_by command (reads (Some command)) refl ends in (command, refl, part, rest, printed, rose)

  -- a run that failed for a cause of its source, or of the bytes that this gave
  fails_here : (command : Command) (failure : Failure) → of_source failure ≡ true → Fails command failure old new
      → FailsToRead (input_limit command) (RefusesBytes command) failure old.left new.left old.source_faults new.source_faults
  fails_here command (failures.BadLog line why) source fails = fails
  fails_here command (failures.NoTranscript line) source fails = fails
  fails_here command (failures.NoTree line) source fails = fails
  fails_here command (failures.NotBuilt line why) source fails = fails
  fails_here command failures.Refused source fails = fails
  fails_here command (failures.BadImage error) source fails = fails
  fails_here command failures.ReadFault source fails = fails
  fails_here command failures.TooLong source fails = fails
  fails_here command failures.Usage source fails = absurd (true≢false (sym source))
  fails_here command failures.WriteFault source fails = absurd (true≢false (sym source))
  fails_here command failures.NoMemory source fails = absurd (true≢false (sym source))

  no_memory : (failure : Failure) → of_source failure ≡ true → failure ≡ failures.NoMemory → ⊥
  no_memory failure source is = true≢false (sym source ∙ ap of_source is)

  makes_here : (IsText : List ℕ → Type 0) (failure : Failure) → of_source failure ≡ true → EndsMaking IsText (Err failure) old.written new.written old.sink_faults new.sink_faults → ⊥
  makes_here IsText (failures.BadLog line why) source ends = no_memory (failures.BadLog line why) source ends
  makes_here IsText (failures.NoTranscript line) source ends = no_memory (failures.NoTranscript line) source ends
  makes_here IsText (failures.NoTree line) source ends = no_memory (failures.NoTree line) source ends
  makes_here IsText (failures.NotBuilt line why) source ends = no_memory (failures.NotBuilt line why) source ends
  makes_here IsText failures.Refused source ends = no_memory failures.Refused source ends
  makes_here IsText (failures.BadImage error) source ends = no_memory (failures.BadImage error) source ends
  makes_here IsText failures.ReadFault source ends = no_memory failures.ReadFault source ends
  makes_here IsText failures.TooLong source ends = no_memory failures.TooLong source ends
  makes_here IsText failures.Usage source ends = true≢false (sym source)
  makes_here IsText failures.WriteFault source ends = true≢false (sym source)
  makes_here IsText failures.NoMemory source ends = true≢false (sym source)

  failed_by : (command : Command) (failure : Failure) → of_source failure ≡ true → (read : Bool) → reads (Some command) ≡ read → Ends (Some command) (Err failure) old new
      → Failed old new command failure
  failed_by command failure source true read ends = record { read = read; cause = fails_here command failure source (ends_reading old new command (Err failure) read ends) }
  failed_by command failure source false unread ends = absurd (makes_here (Prints command old.left) failure source (ends_making old new command (Err failure) unread ends))

  pub failed : (command : Option Command) (failure : Failure) → of_source failure ≡ true → Ends command (Err failure) old new → (c : Command) × (command ≡ Some c) × Failed old new c failure
  failed None failure source ends = elim ends [
    | inl e ↦ let is : failure ≡ failures.Usage = cc in absurd (true≢false (sym source ∙ ap of_source is))
    | inr e ↦ let is : failure ≡ failures.NoMemory = cc in absurd (true≢false (sym source ∙ ap of_source is))
  ]
  failed (Some command) failure source ends = (command, refl, failed_by command failure source (reads (Some command)) refl ends)

  -- a run of words that are no command
  is_command : (command : Command) (read : Bool) → reads (Some command) ≡ read → Ends (Some command) (Err failures.Usage) old new → ⊥
  is_command command true read ends = ends_reading old new command (Err failures.Usage) read ends
  is_command command false unread ends = let e : failures.Usage ≡ failures.NoMemory = ends_making old new command (Err failures.Usage) unread ends in absurd (cc)

  pub no_command : (command : Option Command) → Ends command (Err failures.Usage) old new → command ≡ None
  no_command None ends = refl
  no_command (Some command) ends = absurd (is_command command (reads (Some command)) refl ends)

-- what was read of a command's input where its output was printed
printed_within : (old new : Streams) (command : Command) (part rest : List ℕ) → Printed old new command part rest → (reads (Some command) ≡ false → new.left ≡ old.left) → ReadsWithin (input_limit command) old.left new.left
printed_within old new command part rest printed kept = go (reads (Some command)) refl
  where
    go : (read : Bool) → reads (Some command) ≡ read → ReadsWithin (input_limit command) old.left new.left
    go true read = printed.within read
    go false unread = reads_nothing (input_limit command) old.left new.left (kept unread)

-- the command that refused its bytes
pub record Refusal (command : Option Command) (old new : Streams) (failure : Failure) : Type 0 where
  pub by : Command
  pub is : command ≡ Some by
  pub input : RefusesInput (input_limit by) (RefusesBytes by) failure old.left new.left

module _ (command : Option Command) (old new : Streams) where
  -- the bytes were refused by the command
  is_refused : (failure : Failure) → (c : Command) → command ≡ Some c → RefusesInput (input_limit c) (RefusesBytes c) failure old.left new.left → AreBytesRefused command old.left failure
  is_refused failure c at (bytes, all, refuses) =
      subst (λ (x : Option Command). AreBytesRefused x old.left failure) (sym at) (known (input_limit c) old.left new.left bytes (λ b. RefusesBytes c b failure) all refuses)

  is_due : (failure : Failure) (d c : Command) → command ≡ Some d → command ≡ Some c → RefusesInput (input_limit d) (RefusesBytes d) failure old.left new.left → (bytes : List ℕ) → old.left ≡ Some bytes
      → IsDue c bytes (status_of failure)
  is_due failure d c at is (got, all, refuses) bytes left =
      let same : d ≡ c = cc (at, is) in
      let due = known (input_limit d) old.left new.left got (λ b. IsDue d b (status_of failure)) all (inr (all.within, inr (failure, refuses, refl))) in
      subst (λ (l : Option (List ℕ)). IfSome l (λ b. IsDue c b (status_of failure))) left (subst (λ (x : Command). IfSome old.left (λ b. IsDue x b (status_of failure))) same due)

  -- they were no more than an input may have
  all_within : (failure : Failure) (c : Command) → command ≡ Some c → RefusesInput (input_limit c) (RefusesBytes c) failure old.left new.left → ReadsWithin (longest command) old.left new.left
  all_within failure c at (bytes, all, refuses) = subst (λ (x : Option Command). ReadsWithin (longest x) old.left new.left) (sym at) (bytes, all.taken, all.within)

  -- a transcript is refused by one command alone
  unverified : (c : Command) → command ≡ Some c → RefusesInput (input_limit c) (RefusesBytes c) failures.Refused old.left new.left
      → (rows : ℕ) × (command ≡ Some (Verify rows)) × IfSome old.left (λ bytes. IsUnverified rows bytes failures.Refused)
  unverified (Replay rows) at (bytes, all, refuses) = absurd refuses
  unverified (Make number steps lanes) at (bytes, all, refuses) = absurd refuses
  unverified (Trial number steps) at (bytes, all, refuses) = absurd refuses
  unverified (Verify rows) at (bytes, all, refuses) = (rows, at, known (input_limit (Verify rows)) old.left new.left bytes (λ b. IsUnverified rows b failures.Refused) all refuses)
  unverified (Image rows) at (bytes, all, refuses) = absurd refuses
  unverified Show at (bytes, all, refuses) = absurd refuses
  unverified (Bulk workers) at (bytes, all, refuses) = absurd refuses
  unverified (Ids lo hi steps drops) at (bytes, all, refuses) = absurd refuses

  -- and an image by another alone
  no_image : (error : ImageError) (c : Command) → command ≡ Some c → RefusesInput (input_limit c) (RefusesBytes c) (failures.BadImage error) old.left new.left
      → (command ≡ Some Show) × IfSome old.left (λ bytes. image_in bytes ≡ Err error)
  no_image error (Replay rows) at (bytes, all, refuses) = absurd refuses
  no_image error (Make number steps lanes) at (bytes, all, refuses) = absurd refuses
  no_image error (Trial number steps) at (bytes, all, refuses) = absurd refuses
  no_image error (Verify rows) at (bytes, all, refuses) = absurd refuses
  no_image error (Image rows) at (bytes, all, refuses) = absurd refuses
  no_image error Show at (bytes, all, refuses) = (at, known (input_limit Show) old.left new.left bytes (λ b. image_in b ≡ Err error) all refuses)
  no_image error (Bulk workers) at (bytes, all, refuses) = absurd refuses
  no_image error (Ids lo hi steps drops) at (bytes, all, refuses) = absurd refuses

module _ {command : Option Command} {old new : Streams} where
  -- ---- what the status 0 says

  pub ok_prints : HasEnded command (Ok tt) old new → (c : Command) → command ≡ Some c → WritesOutput c old.left old.written new.written
  ok_prints ends c is held known_held =
      let (d, at, text, p) = done old new command ends.ends in
      let same : d ≡ c = cc (at, is) in (
        text,
        subst (Prints c old.left) (append-nil text) (subst (λ (x : Command). Prints x old.left (text ++ [])) same p.prints),
        appended old.written new.written held text p.wrote known_held,
      )

  pub ok_taken : HasEnded command (Ok tt) old new → AreBytesTaken command old.left
  ok_taken ends = let (c, at, text, p) = done old new command ends.ends in subst (λ (x : Option Command). AreBytesTaken x old.left) (sym at) p.taken

  pub ok_due : HasEnded command (Ok tt) old new → (c : Command) → command ≡ Some c → reads (Some c) ≡ true → (bytes : List ℕ) → old.left ≡ Some bytes → IsDue c bytes 0
  ok_due ends c is read bytes left =
      let (d, at, text, p) = done old new command ends.ends in
      let same : d ≡ c = cc (at, is) in
      let due = subst (λ (x : Command). reads (Some x) ≡ true → IfSome old.left (λ b. IsDue x b 0)) same p.due read in
      subst (λ (l : Option (List ℕ)). IfSome l (λ b. IsDue c b 0)) left due

  pub ok_ended : HasEnded command (Ok tt) old new → reads command ≡ true → IsAtEnd new.left
  ok_ended ends read = let (c, at, text, p) = done old new command ends.ends in p.ended (sym (ap reads at) ∙ read)

  pub ok_within : HasEnded command (Ok tt) old new → (reads command ≡ false → new.left ≡ old.left) → ReadsWithin (longest command) old.left new.left
  ok_within ends kept =
      let (c, at, text, p) = done old new command ends.ends in
      subst (λ (x : Option Command). ReadsWithin (longest x) old.left new.left) (sym at) (printed_within old new c text [] p (λ unread. kept (ap reads at ∙ unread)))

  -- ---- what another status says

  refusal : (failure : Failure) → is_refusal failure ≡ true → HasEnded command (Err failure) old new → Refusal command old new failure
  refusal (failures.BadLog line why) own ends = let (c, at, f) = failed old new command (failures.BadLog line why) refl ends.ends in record { by = c; is = at; input = f.cause }
  refusal (failures.NoTranscript line) own ends = let (c, at, f) = failed old new command (failures.NoTranscript line) refl ends.ends in record { by = c; is = at; input = f.cause }
  refusal (failures.NoTree line) own ends = let (c, at, f) = failed old new command (failures.NoTree line) refl ends.ends in record { by = c; is = at; input = f.cause }
  refusal (failures.NotBuilt line why) own ends = let (c, at, f) = failed old new command (failures.NotBuilt line why) refl ends.ends in record { by = c; is = at; input = f.cause }
  refusal failures.Refused own ends = let (c, at, f) = failed old new command failures.Refused refl ends.ends in record { by = c; is = at; input = f.cause }
  refusal (failures.BadImage error) own ends = let (c, at, f) = failed old new command (failures.BadImage error) refl ends.ends in record { by = c; is = at; input = f.cause }
  refusal failures.Usage own ends = absurd (true≢false (sym own))
  refusal failures.ReadFault own ends = absurd (true≢false (sym own))
  refusal failures.WriteFault own ends = absurd (true≢false (sym own))
  refusal failures.NoMemory own ends = absurd (true≢false (sym own))
  refusal failures.TooLong own ends = absurd (true≢false (sym own))

  refused_by : (failure : Failure) → is_refusal failure ≡ true → HasEnded command (Err failure) old new → AreBytesRefused command old.left failure
  refused_by failure own ends = let r = refusal failure own ends in is_refused command old new failure r.by r.is r.input

  pub err_refused : (failure : Failure) → HasEnded command (Err failure) old new → status_of failure ≡ 1 → AreBytesRefused command old.left failure
  err_refused (failures.BadLog line why) ends is = refused_by (failures.BadLog line why) refl ends
  err_refused (failures.NoTranscript line) ends is = refused_by (failures.NoTranscript line) refl ends
  err_refused (failures.NoTree line) ends is = refused_by (failures.NoTree line) refl ends
  err_refused (failures.NotBuilt line why) ends is = refused_by (failures.NotBuilt line why) refl ends
  err_refused failures.Refused ends is = absurd (omega (arith, is))
  err_refused (failures.BadImage error) ends is = absurd (omega (arith, is))
  err_refused failures.Usage ends is = absurd (omega (arith, is))
  err_refused failures.ReadFault ends is = absurd (omega (arith, is))
  err_refused failures.WriteFault ends is = absurd (omega (arith, is))
  err_refused failures.NoMemory ends is = absurd (omega (arith, is))
  err_refused failures.TooLong ends is = absurd (omega (arith, is))

  pub err_unverified : (failure : Failure) → HasEnded command (Err failure) old new → status_of failure ≡ 7
      → (rows : ℕ) × (command ≡ Some (Verify rows)) × IfSome old.left (λ bytes. IsUnverified rows bytes failures.Refused)
  err_unverified (failures.BadLog line why) ends is = absurd (omega (arith, is))
  err_unverified (failures.NoTranscript line) ends is = absurd (omega (arith, is))
  err_unverified (failures.NoTree line) ends is = absurd (omega (arith, is))
  err_unverified (failures.NotBuilt line why) ends is = absurd (omega (arith, is))
  err_unverified failures.Refused ends is = let r = refusal failures.Refused refl ends in unverified command old new r.by r.is r.input
  err_unverified (failures.BadImage error) ends is = absurd (omega (arith, is))
  err_unverified failures.Usage ends is = absurd (omega (arith, is))
  err_unverified failures.ReadFault ends is = absurd (omega (arith, is))
  err_unverified failures.WriteFault ends is = absurd (omega (arith, is))
  err_unverified failures.NoMemory ends is = absurd (omega (arith, is))
  err_unverified failures.TooLong ends is = absurd (omega (arith, is))

  pub err_no_image : (failure : Failure) → HasEnded command (Err failure) old new → status_of failure ≡ 8
      → (error : ImageError) × (command ≡ Some Show) × IfSome old.left (λ bytes. image_in bytes ≡ Err error)
  err_no_image (failures.BadLog line why) ends is = absurd (omega (arith, is))
  err_no_image (failures.NoTranscript line) ends is = absurd (omega (arith, is))
  err_no_image (failures.NoTree line) ends is = absurd (omega (arith, is))
  err_no_image (failures.NotBuilt line why) ends is = absurd (omega (arith, is))
  err_no_image failures.Refused ends is = absurd (omega (arith, is))
  err_no_image (failures.BadImage error) ends is = let r = refusal (failures.BadImage error) refl ends in let is_none = no_image command old new error r.by r.is r.input in (error, is_none.0, is_none.1)
  err_no_image failures.Usage ends is = absurd (omega (arith, is))
  err_no_image failures.ReadFault ends is = absurd (omega (arith, is))
  err_no_image failures.WriteFault ends is = absurd (omega (arith, is))
  err_no_image failures.NoMemory ends is = absurd (omega (arith, is))
  err_no_image failures.TooLong ends is = absurd (omega (arith, is))

  pub err_usage : (failure : Failure) → HasEnded command (Err failure) old new → status_of failure ≡ 2 → command ≡ None
  err_usage (failures.BadLog line why) ends is = absurd (omega (arith, is))
  err_usage (failures.NoTranscript line) ends is = absurd (omega (arith, is))
  err_usage (failures.NoTree line) ends is = absurd (omega (arith, is))
  err_usage (failures.NotBuilt line why) ends is = absurd (omega (arith, is))
  err_usage failures.Refused ends is = absurd (omega (arith, is))
  err_usage (failures.BadImage error) ends is = absurd (omega (arith, is))
  err_usage failures.Usage ends is = no_command old new command ends.ends
  err_usage failures.ReadFault ends is = absurd (omega (arith, is))
  err_usage failures.WriteFault ends is = absurd (omega (arith, is))
  err_usage failures.NoMemory ends is = absurd (omega (arith, is))
  err_usage failures.TooLong ends is = absurd (omega (arith, is))

  -- a failed read
  read_fault : HasEnded command (Err failures.ReadFault) old new → ReadsWithin (longest command) old.left new.left × Rose old.source_faults new.source_faults
  read_fault ends =
      let (c, at, f) = failed old new command failures.ReadFault refl ends.ends in
      (subst (λ (x : Option Command). ReadsWithin (longest x) old.left new.left) (sym at) f.cause.0, f.cause.1)

  pub err_read_fault : (failure : Failure) → HasEnded command (Err failure) old new → status_of failure ≡ 3 → Rose old.source_faults new.source_faults
  err_read_fault (failures.BadLog line why) ends is = absurd (omega (arith, is))
  err_read_fault (failures.NoTranscript line) ends is = absurd (omega (arith, is))
  err_read_fault (failures.NoTree line) ends is = absurd (omega (arith, is))
  err_read_fault (failures.NotBuilt line why) ends is = absurd (omega (arith, is))
  err_read_fault failures.Refused ends is = absurd (omega (arith, is))
  err_read_fault (failures.BadImage error) ends is = absurd (omega (arith, is))
  err_read_fault failures.Usage ends is = absurd (omega (arith, is))
  err_read_fault failures.ReadFault ends is = (read_fault ends).1
  err_read_fault failures.WriteFault ends is = absurd (omega (arith, is))
  err_read_fault failures.NoMemory ends is = absurd (omega (arith, is))
  err_read_fault failures.TooLong ends is = absurd (omega (arith, is))

  -- what a failed printing left
  write_fault : (failure : Failure) → HasEnded command (Err failure) old new → status_of failure ≡ 4
      → (c : Command) × (command ≡ Some c) × (part rest : List ℕ) × Printed old new c part rest × Rose old.sink_faults new.sink_faults
  write_fault (failures.BadLog line why) ends is = absurd (omega (arith, is))
  write_fault (failures.NoTranscript line) ends is = absurd (omega (arith, is))
  write_fault (failures.NoTree line) ends is = absurd (omega (arith, is))
  write_fault (failures.NotBuilt line why) ends is = absurd (omega (arith, is))
  write_fault failures.Refused ends is = absurd (omega (arith, is))
  write_fault (failures.BadImage error) ends is = absurd (omega (arith, is))
  write_fault failures.Usage ends is = absurd (omega (arith, is))
  write_fault failures.ReadFault ends is = absurd (omega (arith, is))
  write_fault failures.WriteFault ends is = broken old new command ends.ends
  write_fault failures.NoMemory ends is = absurd (omega (arith, is))
  write_fault failures.TooLong ends is = absurd (omega (arith, is))

  pub err_write_fault : (failure : Failure) → HasEnded command (Err failure) old new → status_of failure ≡ 4 → Rose old.sink_faults new.sink_faults
  err_write_fault failure ends is = let (c, at, part, rest, printed, rose) = write_fault failure ends is in rose

  pub err_taken : (failure : Failure) → HasEnded command (Err failure) old new → status_of failure ≡ 4 → AreBytesTaken command old.left
  err_taken failure ends is = let (c, at, part, rest, printed, rose) = write_fault failure ends is in subst (λ (x : Option Command). AreBytesTaken x old.left) (sym at) printed.taken

  pub err_part : (failure : Failure) → HasEnded command (Err failure) old new → (c : Command) → command ≡ Some c → status_of failure ≡ 4 → WritesPart c old.left old.written new.written
  err_part failure ends c known_command is held known_held =
      let (d, at, part, rest, printed, rose) = write_fault failure ends is in
      let same : d ≡ c = cc (at, known_command) in (
        part,
        rest,
        subst (λ (x : Command). Prints x old.left (part ++ rest)) same printed.prints,
        appended old.written new.written held part printed.wrote known_held,
      )

  pub err_too_long : (failure : Failure) → HasEnded command (Err failure) old new → status_of failure ≡ 6 → ReadsTooMany (longest command) old.left new.left
  err_too_long (failures.BadLog line why) ends is = absurd (omega (arith, is))
  err_too_long (failures.NoTranscript line) ends is = absurd (omega (arith, is))
  err_too_long (failures.NoTree line) ends is = absurd (omega (arith, is))
  err_too_long (failures.NotBuilt line why) ends is = absurd (omega (arith, is))
  err_too_long failures.Refused ends is = absurd (omega (arith, is))
  err_too_long (failures.BadImage error) ends is = absurd (omega (arith, is))
  err_too_long failures.Usage ends is = absurd (omega (arith, is))
  err_too_long failures.ReadFault ends is = absurd (omega (arith, is))
  err_too_long failures.WriteFault ends is = absurd (omega (arith, is))
  err_too_long failures.NoMemory ends is = absurd (omega (arith, is))
  err_too_long failures.TooLong ends is =
      let (c, at, f) = failed old new command failures.TooLong refl ends.ends in
      subst (λ (x : Option Command). ReadsTooMany (longest x) old.left new.left) (sym at) f.cause

  -- a command that failed by its source reads it
  reads_it : (failure : Failure) → of_source failure ≡ true → HasEnded command (Err failure) old new → reads command ≡ true
  reads_it failure source ends = let (c, at, f) = failed old new command failure source ends.ends in ap reads at ∙ f.read

  -- a command that reads nothing ends with none of the statuses of reading
  pub err_unread : (failure : Failure) → HasEnded command (Err failure) old new → reads command ≡ false → (status_of failure ≢ 1) × (status_of failure ≢ 3) × (status_of failure ≢ 6) × (status_of failure ≢ 7) × (status_of failure ≢ 8)
  err_unread (failures.BadLog line why) ends unreads = absurd (never_reads command unreads (reads_it (failures.BadLog line why) refl ends))
  err_unread (failures.NoTranscript line) ends unreads = absurd (never_reads command unreads (reads_it (failures.NoTranscript line) refl ends))
  err_unread (failures.NoTree line) ends unreads = absurd (never_reads command unreads (reads_it (failures.NoTree line) refl ends))
  err_unread (failures.NotBuilt line why) ends unreads = absurd (never_reads command unreads (reads_it (failures.NotBuilt line why) refl ends))
  err_unread failures.Refused ends unreads = absurd (never_reads command unreads (reads_it failures.Refused refl ends))
  err_unread (failures.BadImage error) ends unreads = absurd (never_reads command unreads (reads_it (failures.BadImage error) refl ends))
  err_unread failures.Usage ends unreads = (λ is. omega (arith, is), λ is. omega (arith, is), λ is. omega (arith, is), λ is. omega (arith, is), λ is. omega (arith, is))
  err_unread failures.ReadFault ends unreads = absurd (never_reads command unreads (reads_it failures.ReadFault refl ends))
  err_unread failures.WriteFault ends unreads = (λ is. omega (arith, is), λ is. omega (arith, is), λ is. omega (arith, is), λ is. omega (arith, is), λ is. omega (arith, is))
  err_unread failures.NoMemory ends unreads = (λ is. omega (arith, is), λ is. omega (arith, is), λ is. omega (arith, is), λ is. omega (arith, is), λ is. omega (arith, is))
  err_unread failures.TooLong ends unreads = absurd (never_reads command unreads (reads_it failures.TooLong refl ends))

  due_by : (failure : Failure) → is_refusal failure ≡ true → HasEnded command (Err failure) old new → (c : Command) → command ≡ Some c → (bytes : List ℕ) → old.left ≡ Some bytes → IsDue c bytes (status_of failure)
  due_by failure own ends c is bytes left = let r = refusal failure own ends in is_due command old new failure r.by c r.is is r.input bytes left

  pub err_complete : (failure : Failure) → HasEnded command (Err failure) old new → (c : Command) → command ≡ Some c → (bytes : List ℕ) → old.left ≡ Some bytes
      → ¬ Rose old.source_faults new.source_faults → ¬ Rose old.sink_faults new.sink_faults → IsDue c bytes (status_of failure) ⊎ (status_of failure ≡ 5)
  err_complete (failures.BadLog line why) ends c is bytes left no_source no_sink = inl (due_by (failures.BadLog line why) refl ends c is bytes left)
  err_complete (failures.NoTranscript line) ends c is bytes left no_source no_sink = inl (due_by (failures.NoTranscript line) refl ends c is bytes left)
  err_complete (failures.NoTree line) ends c is bytes left no_source no_sink = inl (due_by (failures.NoTree line) refl ends c is bytes left)
  err_complete (failures.NotBuilt line why) ends c is bytes left no_source no_sink = inl (due_by (failures.NotBuilt line why) refl ends c is bytes left)
  err_complete failures.Refused ends c is bytes left no_source no_sink = inl (due_by failures.Refused refl ends c is bytes left)
  err_complete (failures.BadImage error) ends c is bytes left no_source no_sink = inl (due_by (failures.BadImage error) refl ends c is bytes left)
  err_complete failures.Usage ends c is bytes left no_source no_sink = let none = no_command old new command ends.ends in absurd (cc (none, is))
  err_complete failures.ReadFault ends c is bytes left no_source no_sink = absurd (no_source (read_fault ends).1)
  err_complete failures.WriteFault ends c is bytes left no_source no_sink = absurd (no_sink (err_write_fault failures.WriteFault ends refl))
  err_complete failures.NoMemory ends c is bytes left no_source no_sink = inr refl
  err_complete failures.TooLong ends c is bytes left no_source no_sink =
      let many = err_too_long failures.TooLong ends refl in
      let mine = subst (λ (x : Option Command). ReadsTooMany (longest x) old.left new.left) is many in
      inl (inl (longer (input_limit c) bytes new.left (subst (λ (l : Option (List ℕ)). ReadsTooMany (input_limit c) l new.left) left mine), refl))

  -- bytes that are refused were read to their end, and so were those of which something was printed
  ended_by : (failure : Failure) → is_refusal failure ≡ true → HasEnded command (Err failure) old new → IsAtEnd new.left
  ended_by failure own ends = let r = refusal failure own ends in let (bytes, all, refuses) = r.input in all.at_end

  pub err_ended : (failure : Failure) → HasEnded command (Err failure) old new → status_of failure < 2 → IsAtEnd new.left
  err_ended (failures.BadLog line why) ends is = ended_by (failures.BadLog line why) refl ends
  err_ended (failures.NoTranscript line) ends is = ended_by (failures.NoTranscript line) refl ends
  err_ended (failures.NoTree line) ends is = ended_by (failures.NoTree line) refl ends
  err_ended (failures.NotBuilt line why) ends is = ended_by (failures.NotBuilt line why) refl ends
  err_ended failures.Refused ends is = absurd (omega (arith, is))
  err_ended (failures.BadImage error) ends is = absurd (omega (arith, is))
  err_ended failures.Usage ends is = absurd (omega (arith, is))
  err_ended failures.ReadFault ends is = absurd (omega (arith, is))
  err_ended failures.WriteFault ends is = absurd (omega (arith, is))
  err_ended failures.NoMemory ends is = absurd (omega (arith, is))
  err_ended failures.TooLong ends is = absurd (omega (arith, is))

  pub err_ended_too : (failure : Failure) → HasEnded command (Err failure) old new → reads command ≡ true → (status_of failure ≡ 4) ⊎ (7 ≤ status_of failure) → IsAtEnd new.left
  err_ended_too (failures.BadLog line why) ends read is = ended_by (failures.BadLog line why) refl ends
  err_ended_too (failures.NoTranscript line) ends read is = ended_by (failures.NoTranscript line) refl ends
  err_ended_too (failures.NoTree line) ends read is = ended_by (failures.NoTree line) refl ends
  err_ended_too (failures.NotBuilt line why) ends read is = ended_by (failures.NotBuilt line why) refl ends
  err_ended_too failures.Refused ends read is = ended_by failures.Refused refl ends
  err_ended_too (failures.BadImage error) ends read is = ended_by (failures.BadImage error) refl ends
  err_ended_too failures.Usage ends read is = elim is [ inl e ↦ absurd (omega (arith, e)) | inr e ↦ absurd (omega (arith, e)) ]
  err_ended_too failures.ReadFault ends read is = elim is [ inl e ↦ absurd (omega (arith, e)) | inr e ↦ absurd (omega (arith, e)) ]
  err_ended_too failures.WriteFault ends read is = let (c, at, part, rest, printed, rose) = broken old new command ends.ends in printed.ended (sym (ap reads at) ∙ read)
  err_ended_too failures.NoMemory ends read is = elim is [ inl e ↦ absurd (omega (arith, e)) | inr e ↦ absurd (omega (arith, e)) ]
  err_ended_too failures.TooLong ends read is = elim is [ inl e ↦ absurd (omega (arith, e)) | inr e ↦ absurd (omega (arith, e)) ]

  within_all : (failure : Failure) → is_refusal failure ≡ true → HasEnded command (Err failure) old new → ReadsWithin (longest command) old.left new.left
  within_all failure own ends = let r = refusal failure own ends in all_within command old new failure r.by r.is r.input

  pub err_within : (failure : Failure) → HasEnded command (Err failure) old new → (reads command ≡ false → new.left ≡ old.left) → status_of failure ≢ 5 → status_of failure ≢ 6
      → ReadsWithin (longest command) old.left new.left
  err_within (failures.BadLog line why) ends kept memory long = within_all (failures.BadLog line why) refl ends
  err_within (failures.NoTranscript line) ends kept memory long = within_all (failures.NoTranscript line) refl ends
  err_within (failures.NoTree line) ends kept memory long = within_all (failures.NoTree line) refl ends
  err_within (failures.NotBuilt line why) ends kept memory long = within_all (failures.NotBuilt line why) refl ends
  err_within failures.Refused ends kept memory long = within_all failures.Refused refl ends
  err_within (failures.BadImage error) ends kept memory long = within_all (failures.BadImage error) refl ends
  err_within failures.Usage ends kept memory long = reads_nothing (longest command) old.left new.left (kept (ap reads (no_command old new command ends.ends)))
  err_within failures.ReadFault ends kept memory long = (read_fault ends).0
  err_within failures.WriteFault ends kept memory long =
      let (c, at, part, rest, printed, rose) = broken old new command ends.ends in
      subst (λ (x : Option Command). ReadsWithin (longest x) old.left new.left) (sym at) (printed_within old new c part rest printed (λ unread. kept (ap reads at ∙ unread)))
  err_within failures.NoMemory ends kept memory long = absurd (memory refl)
  err_within failures.TooLong ends kept memory long = absurd (long refl)

  -- bytes that are refused are told so
  pub err_told : (failure : Failure) → HasEnded command (Err failure) old new → IsToldOf command old.left failure
  err_told (failures.BadLog line why) ends = refused_by (failures.BadLog line why) refl ends
  err_told (failures.NoTranscript line) ends = refused_by (failures.NoTranscript line) refl ends
  err_told (failures.NoTree line) ends = refused_by (failures.NoTree line) refl ends
  err_told (failures.NotBuilt line why) ends = refused_by (failures.NotBuilt line why) refl ends
  err_told failures.Refused ends = refused_by failures.Refused refl ends
  err_told (failures.BadImage error) ends = refused_by (failures.BadImage error) refl ends
  err_told failures.Usage ends = tt
  err_told failures.ReadFault ends = tt
  err_told failures.WriteFault ends = tt
  err_told failures.NoMemory ends = tt
  err_told failures.TooLong ends = tt

-- ---- the turns of lanes and workers

turned : (passed : ℕ → ℕ → Type 0) (command : Command) (limit : ℕ) (left rest : Option (List ℕ)) (bytes : List ℕ) → ReadsAll limit left rest bytes → HasTurned passed command bytes
    → HaveTurned passed (Some command) left
turned passed (Replay rows) limit left rest bytes all took = known limit left rest bytes (IsTurnedLog passed) all took
turned passed (Make number steps lanes) limit left rest bytes all took = tt
turned passed (Trial number steps) limit left rest bytes all took = took
turned passed (Verify rows) limit left rest bytes all took = tt
turned passed (Image rows) limit left rest bytes all took = known limit left rest bytes (IsTurnedLog passed) all took
turned passed Show limit left rest bytes all took = tt
turned passed (Bulk workers) limit left rest bytes all took = known limit left rest bytes (IsBuiltBy passed workers) all took
turned passed (Ids lo hi steps drops) limit left rest bytes all took = tt

-- they took their turns, whether the text was then printed or not
pub has_turned : (passed : ℕ → ℕ → Type 0) (command : Command) (result : Result (Unit {0}) Failure) (limit : ℕ) (left rest : Option (List ℕ)) (bytes : List ℕ) → ReadsAll limit left rest bytes
    → HasTurned passed command bytes → OnOk result (HaveTurned passed (Some command) left)
has_turned passed command (Ok done) limit left rest bytes all took = turned passed command limit left rest bytes all took
has_turned passed command (Err failure) limit left rest bytes all took = tt
