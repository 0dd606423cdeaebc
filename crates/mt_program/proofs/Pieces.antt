-- What was read and written so far, piece by piece.
use Rattle.mt_program.proofs.Prelude.{◌≡◌, Result, Ok, Err, IfErr, IsErrAnd, ◌≤◌, ◌+◌, ℕ, List, [], ◌++◌, Option, length, take, drop, append_assoc, take-append-drop, sym, ap, subst, append-nil, ◌∙◌, refl, arith, length-append, Appends, Consumes, IsAtEnd, Keeps, Appends-nil, Appends-trans, Appends-kept, Consumes-nil, Consumes-trans, Consumes-kept, take_rest, ReadsNoFurther, ReadsTooMany, ReadsWithin, Rose, ReadsAll, ReadFails, ReadError}
use Rattle.mt_program.specs.declared.streams.ReadError.TheVariants as reads

-- one more piece was read
pub read_more : (before now after : Option (List ℕ)) (bytes piece longer : List ℕ) → Consumes before now bytes → Consumes now after piece → longer ≡ bytes ++ piece → Consumes before after longer
read_more before now after bytes piece longer so_far more is = subst (Consumes before after) (sym is) (Consumes-trans before now after bytes piece so_far more)

-- a read of no bytes ended the input
pub read_all : (limit : ℕ) (before now after : Option (List ℕ)) (bytes : List ℕ) → Consumes before now bytes → Consumes now after [] → IsAtEnd after → length bytes ≤ limit → ReadsAll limit before after bytes
read_all limit before now after bytes so_far none at_end within = record {
  taken = subst (Consumes before after) (append-nil bytes) (Consumes-trans before now after bytes [] so_far none);
  at_end = at_end;
  within = within;
}

-- a read failed
pub read_within : (limit : ℕ) (before now after : Option (List ℕ)) (bytes : List ℕ) → Consumes before now bytes → Keeps now after → length bytes ≤ limit → ReadsWithin limit before after
read_within limit before now after bytes so_far kept within = (bytes, Consumes-kept before now after bytes so_far kept, within)

pub read_too_many : (limit : ℕ) (before after : Option (List ℕ)) (bytes : List ℕ) → Consumes before after bytes → length bytes ≡ limit + 1 → ReadsTooMany limit before after
read_too_many limit before after bytes taken long = (bytes, taken, long)

-- the error of a failed read
pub fault_fails : {T : Type 0} (limit : ℕ) (result : Result T ReadError) (left rest : Option (List ℕ)) (before after : ℕ) → IsErrAnd result (λ e. e ≡ reads.Fault) → ReadsWithin limit left rest → Rose before after → IfErr result (λ e. ReadFails limit e left rest before after)
fault_fails limit (Ok x) left rest before after is within rose = tt
fault_fails limit (Err e) left rest before after is within rose = let P : ReadError → Type 0 = λ x. ReadFails limit x left rest before after in subst P (sym is) (within, rose)

-- nothing was read
pub reads_none : (limit : ℕ) (left : Option (List ℕ)) → ReadsNoFurther limit left left
reads_none limit left = ([], Consumes-nil left, omega arith)

-- so many bytes were read and kept, and then as many more as had room
pub reads_no_further : (limit : ℕ) (before now after : Option (List ℕ)) (bytes piece : List ℕ) → Consumes before now bytes → Consumes now after piece → length bytes + length piece ≤ limit + 1 → ReadsNoFurther limit before after
reads_no_further limit before now after bytes piece so_far more room = (bytes ++ piece, Consumes-trans before now after bytes piece so_far more, omega (arith, length-append bytes piece))

-- a read failed
pub fails_no_further : (limit : ℕ) (before now after : Option (List ℕ)) (bytes : List ℕ) → Consumes before now bytes → Keeps now after → length bytes ≤ limit → ReadsNoFurther limit before after
fails_no_further limit before now after bytes so_far kept within = (bytes, Consumes-kept before now after bytes so_far kept, omega arith)

pub ruleset reading = (Consumes-nil, read_more, read_all, read_within, read_too_many, reads_none, reads_no_further, fails_no_further)

-- of these bytes the first were appended, and the rest was not
pub record HasAppended (before now : Option (List ℕ)) (bytes rest : List ℕ) : Type 0 where
  pub part : List ℕ
  pub split : bytes ≡ part ++ rest
  pub appended : Appends before now part

pub appended_none : (before : Option (List ℕ)) (bytes : List ℕ) → HasAppended before before bytes bytes
appended_none before bytes = record { part = []; split = refl; appended = Appends-nil before }

-- one more piece was appended
pub appended_more : (before now after : Option (List ℕ)) (bytes rest tail : List ℕ) (n : ℕ) → HasAppended before now bytes rest → Appends now after (take n rest) → tail ≡ drop n rest → HasAppended before after bytes tail
appended_more before now after bytes rest tail n so_far more is = record {
  part = so_far.part ++ take n rest;
  split = so_far.split ∙ ap (λ l. so_far.part ++ l) (sym (take-append-drop n rest) ∙ ap (λ l. take n rest ++ l) (sym is)) ∙ sym (append_assoc so_far.part (take n rest) tail);
  appended = Appends-trans before now after so_far.part (take n rest) so_far.appended more;
}

pub ruleset writing = (appended_none, appended_more, take_rest)
