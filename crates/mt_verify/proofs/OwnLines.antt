-- What is told of a tree is told by its own lines.
use Rattle.mt_verify.proofs.Prelude.{◌≡◌, ℕ, ◌+◌, ◌==◌, ◌&&◌, List, [], ◌∷◌, length, filter, map, nat_lt, refl, ap, inl, inr, arith, cons_option, if◌then◌else◌, cases_Bool, ToldLine, What, Wrote, Got, Copied, Lawful, ToldRead, calls_of_phases_before, is_wrote, number_for, numbers_behind, read_by, reads_told, look_told, looks_told, calls_below, calls_in, lines_on, look_by_lane, looks_by_lane}
use Rattle.mt_verify.proofs.Found.{own_looks}

-- ---- reads

pub lane_is : (tree lane : ℕ) (told : List ToldLine) → looks_by_lane (lines_on tree told) lane ≡ looks_told tree lane told
lane_is tree lane [] = refl
lane_is tree lane (t ∷ told) = elim (cases_Bool (t.tree == tree)) [
  | inr other ↦ rw other (lane_is tree lane told)
  | inl here ↦ rw here (ap (cons_option (look_by_lane lane t)) (lane_is tree lane told))
]

look_is : (what : What) (k : ℕ) (rest : List (ToldRead × ℕ)) (looks : List ToldRead) → map (λ (r : ToldRead × ℕ). r.0) rest ≡ looks → map (λ (r : ToldRead × ℕ). r.0) (cons_option (read_by what k) rest) ≡ cons_option (look_told what) looks
look_is (Wrote number call reply) k rest looks same = same
look_is (Got lo hi query told) k rest looks same = ap (λ (l : List ToldRead). record { lo = lo; hi = hi; query = query; told = told } ∷ l) same
look_is (Copied count) k rest looks same = same
look_is (Lawful count) k rest looks same = same

pub own_is : (tree lane : ℕ) (told : List ToldLine) (points : List ℕ) → own_looks tree lane told points ≡ looks_told tree lane told
own_is tree lane [] points = refl
own_is tree lane (t ∷ told) points =
    let rest = own_is tree lane told (numbers_behind t.what points) in
    elim (cases_Bool (t.tree == tree)) [
      | inr other ↦ rw other rest
      | inl here ↦
          elim (cases_Bool (t.lane == lane)) [
            | inr other ↦ rw (here, other) rest
            | inl own ↦ rw (here, own) (look_is t.what (number_for t.what points) (reads_told tree lane told (numbers_behind t.what points)) (looks_told tree lane told) rest)
          ]
    ]

-- ---- calls

pub below_is : (tree phase : ℕ) (told : List ToldLine) → calls_below (lines_on tree told) phase ≡ calls_of_phases_before told tree phase
below_is tree phase [] = refl
below_is tree phase (t ∷ told) =
    let rest = below_is tree phase told in
    elim (cases_Bool (t.tree == tree)) [
      | inr other ↦ rw other rest
      | inl here ↦
          elim (cases_Bool (nat_lt t.phase phase)) [
            | inr late ↦ rw (here, late) (omega (arith, rest))
            | inl early ↦ rw (here, early) (by_what t.what rest)
          ]
    ]
  where
    by_what : (w : What) → calls_below (lines_on tree told) phase ≡ calls_of_phases_before told tree phase → calls_in w + calls_below (lines_on tree told) phase ≡ length (if is_wrote w then t ∷ filter (λ (u : ToldLine). (u.tree == tree) && (nat_lt u.phase phase && is_wrote u.what)) told else filter (λ (u : ToldLine). (u.tree == tree) && (nat_lt u.phase phase && is_wrote u.what)) told)
    by_what (Wrote number call reply) rest = omega (arith, rest)
    by_what (Got lo hi query a) rest = omega (arith, rest)
    by_what (Copied count) rest = omega (arith, rest)
    by_what (Lawful count) rest = omega (arith, rest)
