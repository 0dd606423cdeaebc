-- Every table of nodes in memory is whole: the proof of the law that the trait of nodes asks for.
use Rattle.std.specs.Prelude.{◌≡◌, ℕ, zero, suc, ◌+◌, ◌≤◌, Bool, true, false, List, [], ◌∷◌, map, nat_le, slice_index_or, if◌then◌else◌, refl}
use Rattle.std.proofs.Common.{sym, ◌∙◌, subst}
use Rattle.std.proofs.lemmas.List.{length-map}
use Rattle.mt_rows.specs.declared.rows.Life.TheVariants as lives
use Rattle.mt_rows.specs.declared.fates.Fate.{Fate}
use Rattle.mt_rows.specs.declared.fates.Fate.TheVariants.{New, Draft, Live, Buried}
use Rattle.mt_rows.specs.declared.plain.State.{State}
use Rattle.mt_rows.specs.declared.plain.PlainRows.{PlainRows}
use Rattle.mt_rows.specs.Levels.{one_if}
use Rattle.mt_rows.specs.Sheet.{HasDied, IsWhole}
use Rattle.mt_rows.specs.Plain.{life_in, buried_in, past_of, fate_of, sheet_of, IsPlainState}
use Rattle.mt_rows.specs.Memory.{sheet_in}

pub life_at : (past : ℕ) (fates : List Fate) (row : ℕ) → slice_index_or (map (life_in past) fates) row lives.New ≡ life_in past (slice_index_or fates row New)
life_at past [] row = refl
life_at past (f ∷ fates) zero = refl
life_at past (f ∷ fates) (suc row) = life_at past fates row

-- a node that was buried is dead or alive
buried_died : (ended call : ℕ) (in_flight dead : Bool) → 1 ≤ call → call ≤ ended + one_if in_flight → HasDied ended in_flight (if dead then lives.Dead call else lives.Live)
buried_died ended call in_flight true some low = (some, low)
buried_died ended call in_flight false some low = tt

plain_whole : (p : State) → IsPlainState p → IsWhole (sheet_of p)
plain_whole p plain = record {
  few = plain.few;
  words = plain.words;
  lives = length-map p.fates.items (life_in (past_of p)) ∙ plain.fates;
  buried = length-map p.fates.items (buried_in (past_of p)) ∙ plain.fates;
  cleared = plain.cleared;
  dead = λ row. subst (HasDied p.ended p.in_flight) (sym (life_at (past_of p) p.fates.items row)) (died row (fate_of p row) refl);
}
  where
    died : (row : ℕ) (f : Fate) → fate_of p row ≡ f → HasDied p.ended p.in_flight (life_in (past_of p) f)
    died row New at = tt
    died row Draft at = tt
    died row Live at = tt
    died row (Buried call) at = let known = plain.buried row call at in buried_died p.ended call p.in_flight (nat_le call (past_of p)) known.1 known.2

pub rows_whole : (rows : PlainRows) → IsWhole (sheet_in rows)
rows_whole rows = plain_whole rows.state rows.plain
