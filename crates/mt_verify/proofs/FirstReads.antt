-- In which phase each lane reads each tree first.
use Rattle.mt_verify.proofs.Prelude.{◌≡◌, ◌↔◌, ℕ, ◌+◌, ◌*◌, ◌<◌, ◌≤◌, true, false, List, [], ◌∷◌, Option, None, All, get_or, replicate, arith, subst, inl, inr, list_any, and_parts, cases_Bool, eqb-true, get_or-replicate, All-head, All-tail, most_trees, ToldLine, HasReadBy, reads_by, most_lanes}

pub none_read : (tree lane phase : ℕ) (other : Option ℕ) → tree < most_trees → lane < most_lanes → HasReadBy (get_or (replicate 256 None) (16 * tree + lane) other) phase ↔ (false ≡ true)
none_read tree lane phase other below beside =
    let is : get_or (replicate 256 None) (16 * tree + lane) other ≡ None = get_or-replicate 256 (16 * tree + lane) None other (omega arith) in
    (λ reads. absurd (subst (λ (o : Option ℕ). HasReadBy o phase) is reads), λ no. absurd (cc))

-- a lane that there is not has read nothing
pub no_lane : (tree lane phase : ℕ) (told : List ToldLine) → All (λ t. t.lane < most_lanes) told → most_lanes ≤ lane → list_any (reads_by tree lane phase) told ≡ true → ⊥
no_lane tree lane phase [] lanes past reads = absurd (cc)
no_lane tree lane phase (t ∷ told) lanes past reads = elim (cases_Bool (reads_by tree lane phase t)) [
  | inl here ↦ (let same : t.lane ≡ lane = eqb-true t.lane lane (and_parts _ _ here).0 in omega (arith, same, past, All-head (λ (s : ToldLine). s.lane < most_lanes) t told lanes))
  | inr not ↦ no_lane tree lane phase told (All-tail (λ (s : ToldLine). s.lane < most_lanes) t told lanes) past (rw not at reads)
]
