-- The lanes of the workers: all leaves are laid on them, one chunk behind another, and what they make is that of all leaves.
use Rattle.mt_bulk.proofs.Prelude.{◌≡◌, ℕ, zero, suc, ◌+◌, ◌-◌, ◌*◌, ◌≤◌, ◌==◌, List, [], ◌∷◌, ◌++◌, length, take, drop, refl, sym, ap, ◌∙◌, subst, inl, inr, arith, add-zero, length-append, ◌<◌, All, slice_index_or, vec_len, vec_capacity, flat_map, cases_Bool, eqb-true, eqb-false, take_all, All-nil, All-cons, Width, Long, Short, finds_room, columns, kind_width, Item, Lane, CanRun, Chain, EachPlace, RanSteps, LeafDesk, Built, heads, words_of, Leaves, AreLaid, HasLeafFacts, AreLanesFrom, FirstHasRoom, IsLeafLane, above_leaves, heads_made, whole_of, words_made, words_room, AreRows, ChunkView, HasFilled, IsFillable, begins_at, heads_in, chunk_part, rows_between, view_of, chunk_words}
use Rattle.mt_bulk.proofs.Chunking.{heads_parts, length_part, part_rows, words_parts}
use Rattle.mt_bulk.proofs.Leveling.{length_heads_in}

pub laid_more : (whole : ChunkView) (from middle to : ℕ) (lanes : List (Lane LeafDesk)) (lane : Lane LeafDesk) → AreLaid whole from middle lanes → middle ≤ to → IsLeafLane whole middle to lane → AreLaid whole from to (lanes ++ lane ∷ [])
laid_more whole from middle to [] lane before order laid = (to, omega arith, subst (λ (n : ℕ). IsLeafLane whole n to lane) (sym before) laid, refl)
laid_more whole from middle to (x ∷ lanes) lane before order laid = (before.0, before.1, before.2, laid_more whole before.0 middle to lanes lane before.3 order laid)

pub laid_order : (whole : ChunkView) (from to : ℕ) (lanes : List (Lane LeafDesk)) → AreLaid whole from to lanes → from ≤ to
laid_order whole from to [] laid = omega arith
laid_order whole from to (x ∷ lanes) laid =
    let here = laid.1 in
    let behind = laid_order whole laid.0 to lanes laid.3 in
    omega arith

-- what a desk awaits, and what its step makes of it
abbrev pub Awaits : LeafDesk → ℕ → Type 0
Awaits d s = IsFillable (view_of d.chunk) (vec_len d.words) (vec_capacity d.words) (vec_len d.heads) (vec_capacity d.heads)

abbrev pub Did : LeafDesk → ℕ → LeafDesk → Type 0
Did a s b = HasFilled (view_of a.chunk) a.words.items b.words.items a.heads.items b.heads.items × (vec_capacity a.words ≤ vec_capacity b.words) × (vec_capacity a.heads ≤ vec_capacity b.heads)

pub laid_can_run : (whole : ChunkView) (from to : ℕ) (lanes : List (Lane LeafDesk)) → AreLaid whole from to lanes → All (CanRun (λ (d : LeafDesk). 1) Awaits) lanes
laid_can_run whole from to [] laid = All-nil (CanRun (λ (d : LeafDesk). 1) Awaits)
laid_can_run whole from to (x ∷ lanes) laid =
    let steps = laid.2.steps in
    All-cons (CanRun (λ (d : LeafDesk). 1) Awaits) x lanes (record { within = omega arith; turns = omega arith; awaited = λ some. laid.2.ready }) (laid_can_run whole laid.0 to lanes laid.3)

one_step_done : (n : ℕ) (a b : LeafDesk) → n ≡ 1 → Chain Did n a b → Did a 0 b
one_step_done zero a b one chain = absurd (omega arith)
one_step_done (suc zero) a b one chain = subst (λ (d : LeafDesk). Did d 0 b) chain.1 chain.2
one_step_done (suc (suc n)) a b one chain = absurd (omega arith)

no_words_left : (whole : ChunkView) (from to : ℕ) → from ≡ to → [] ≡ chunk_words (chunk_part whole from to)
no_words_left whole from to same = let none : 0 ≡ to - from = omega arith in ap (λ (n : ℕ). words_of (kind_width whole.tree) whole.kind (take n (drop from whole.parents)) (rows_between whole.items (chunk_part whole from to).from (take (to - from) (drop from whole.ends)))) none

no_heads_left : (whole : ChunkView) (from to : ℕ) → from ≡ to → [] ≡ heads_in (chunk_part whole from to)
no_heads_left whole from to same = let none : 0 ≡ to - from = omega arith in ap (λ (n : ℕ). heads (finds_room whole.tree) whole.kind (begins_at whole.items (chunk_part whole from to).from) (whole.number + from) (rows_between whole.items (chunk_part whole from to).from (take n (drop from whole.ends)))) none

module _ (whole : ChunkView) (can : AreRows whole) (start : whole.from ≡ 0) (passed : ℕ → ℕ → Type 0) where
  -- What the lanes have made of the leaves from one on, one lane behind another, is what these leaves make, if it is so for the leaves of one lane.
  laid_all : {A : Type 0} (made : LeafDesk → List A) (part : ChunkView → List A) → ((from to : ℕ) → from ≡ to → [] ≡ part (chunk_part whole from to))
      → ((from middle to : ℕ) → from ≤ middle → middle ≤ to → to ≤ length whole.ends → part (chunk_part whole from to) ≡ part (chunk_part whole from middle) ++ part (chunk_part whole middle to))
      → ((from to : ℕ) (x y : Lane LeafDesk) → IsLeafLane whole from to x → Did x.desk 0 y.desk → made y.desk ≡ part (chunk_part whole from to))
      → (from to : ℕ) (xs ys : List (Lane LeafDesk)) → to ≤ length whole.ends → AreLaid whole from to xs → length ys ≡ length xs → EachPlace (RanSteps Did passed) xs ys → flat_map (λ (l : Lane LeafDesk). made l.desk) ys ≡ part (chunk_part whole from to)
  laid_all made part none parts own from to [] [] inside laid same each = none from to laid
  laid_all made part none parts own from to [] (y ∷ ys) inside laid same each = absurd (omega arith)
  laid_all made part none parts own from to (x ∷ xs) [] inside laid same each = absurd (omega arith)
  laid_all made part none parts own from to (x ∷ xs) (y ∷ ys) inside laid same each =
      let middle = laid.0 in
      let low = laid.1 in
      let high = laid_order whole middle to xs laid.3 in
      let ran = each 0 x (omega arith) in
      let mine = own from middle x y laid.2 (one_step_done x.steps x.desk y.desk laid.2.steps ran.desk) in
      let behind = laid_all made part none parts own middle to xs ys inside laid.3 (omega arith) (λ place other within. each (suc place) other (omega arith)) in
      (λ i. mine i ++ behind i) ∙ sym (parts from middle to low high inside)

  pub laid_words : (from to : ℕ) (xs ys : List (Lane LeafDesk)) → to ≤ length whole.ends → AreLaid whole from to xs → length ys ≡ length xs → EachPlace (RanSteps Did passed) xs ys → words_made ys ≡ chunk_words (chunk_part whole from to)
  laid_words = laid_all (λ (d : LeafDesk). d.words.items) chunk_words (no_words_left whole) (words_parts whole can start)
      (λ from to x y lane done. done.0.words ∙ (ap (λ (l : List ℕ). l ++ chunk_words (view_of x.desk.chunk)) lane.words ∙ ap chunk_words lane.chunk))

  pub laid_heads : (from to : ℕ) (xs ys : List (Lane LeafDesk)) → to ≤ length whole.ends → AreLaid whole from to xs → length ys ≡ length xs → EachPlace (RanSteps Did passed) xs ys → heads_made ys ≡ heads_in (chunk_part whole from to)
  laid_heads = laid_all (λ (d : LeafDesk). d.heads.items) heads_in (no_heads_left whole) (heads_parts whole can start)
      (λ from to x y lane done. done.0.above ∙ (ap (λ (l : List Item). l ++ heads_in (view_of x.desk.chunk)) lane.heads ∙ ap heads_in lane.chunk))

  -- all leaves
  pub words_all : chunk_words (chunk_part whole 0 (length whole.ends)) ≡ chunk_words whole
  words_all =
      let all : length whole.ends - 0 ≡ length whole.ends = omega arith in
      let parents = can.parents in
      let ps : take (length whole.ends - 0) whole.parents ≡ whole.parents = take_all (length whole.ends - 0) whole.parents (omega arith) in
      let es : take (length whole.ends - 0) whole.ends ≡ whole.ends = take_all (length whole.ends - 0) whole.ends (omega arith) in
      (λ i. words_of (kind_width whole.tree) whole.kind (ps i) (rows_between whole.items (sym start i) (es i)))

  pub heads_all : heads_in (chunk_part whole 0 (length whole.ends)) ≡ heads_in whole
  heads_all =
      let all : length whole.ends - 0 ≡ length whole.ends = omega arith in
      let es : take (length whole.ends - 0) whole.ends ≡ whole.ends = take_all (length whole.ends - 0) whole.ends (omega arith) in
      (λ i. heads (finds_room whole.tree) whole.kind (begins_at whole.items (sym start i)) (add-zero whole.number i) (rows_between whole.items (sym start i) (es i)))

pub part_ready : (l : Leaves) (from to used room heads heads_room : ℕ) → HasLeafFacts l → from ≤ to → to ≤ length l.ends.items → used + columns (kind_width l.kind) * (to - from) ≤ room → heads + (to - from) ≤ heads_room
    → IsFillable (chunk_part (whole_of l) from to) used room heads heads_room
part_ready l from to used room heads heads_room are order inside for_words for_heads =
    let long = length_part l.ends.items from to order inside in
    record {
      rows = part_rows (whole_of l) are.whole refl from to order inside;
      for_words = subst (λ (n : ℕ). used + columns (kind_width l.kind) * n ≤ room) (sym long) for_words;
      for_heads = omega (arith, for_heads, long);
    }

pub columns_grow : (width : Width) (a b : ℕ) → a ≤ b → columns width * a ≤ columns width * b
columns_grow Long a b low = omega arith
columns_grow Short a b low = omega arith

-- ---- room

pub first_room : (words heads : ℕ) (lanes : List (Lane LeafDesk)) (lane : Lane LeafDesk) → FirstHasRoom words heads lanes → (length lanes ≡ 0 → FirstHasRoom words heads (lane ∷ [])) → FirstHasRoom words heads (lanes ++ lane ∷ [])
first_room words heads [] lane before alone = alone refl
first_room words heads (x ∷ lanes) lane before alone = before

-- the first lane has as much room as before
pub room_kept : (whole : ChunkView) (passed : ℕ → ℕ → Type 0) (from to words heads : ℕ) (xs ys : List (Lane LeafDesk)) → AreLaid whole from to xs → length ys ≡ length xs → EachPlace (RanSteps Did passed) xs ys → FirstHasRoom words heads xs → FirstHasRoom words heads ys
room_kept whole passed from to words heads [] [] laid same each room = tt
room_kept whole passed from to words heads [] (y ∷ ys) laid same each room = absurd (omega arith)
room_kept whole passed from to words heads (x ∷ xs) [] laid same each room = absurd (omega arith)
room_kept whole passed from to words heads (x ∷ xs) (y ∷ ys) laid same each room =
    let done = one_step_done x.steps x.desk y.desk laid.2.steps (each 0 x (omega arith)).desk in
    let more_words = done.1 in
    let more_heads = done.2 in
    let for_words = room.0 in
    let for_heads = room.1 in
    (omega arith, omega arith)

pub less_room : (words heads words' heads' : ℕ) (lanes : List (Lane LeafDesk)) → words ≤ words' → heads ≤ heads' → FirstHasRoom words' heads' lanes → FirstHasRoom words heads lanes
less_room words heads words' heads' [] less_words less_heads room = tt
less_room words heads words' heads' (x ∷ lanes) less_words less_heads room =
    let for_words = room.0 in
    let for_heads = room.1 in
    (omega arith, omega arith)

-- what the others made fits behind what the first did
pub room_behind : (lanes others : List (Lane LeafDesk)) (x : Lane LeafDesk) → lanes ≡ x ∷ others → FirstHasRoom (length (words_made lanes)) (length (heads_made lanes)) lanes
    → (length x.desk.words.items + length (words_made others) ≤ vec_capacity x.desk.words) × (length x.desk.heads.items + length (heads_made others) ≤ vec_capacity x.desk.heads)
room_behind lanes others x is room =
    let both = subst (λ (ls : List (Lane LeafDesk)). FirstHasRoom (length (words_made ls)) (length (heads_made ls)) ls) is room in
    let for_words = both.0 in
    let for_heads = both.1 in
    (omega (arith, for_words, length-append x.desk.words.items (words_made others)), omega (arith, for_heads, length-append x.desk.heads.items (heads_made others)))

pub first_has : (lanes others : List (Lane LeafDesk)) (x : Lane LeafDesk) (words heads : ℕ) → lanes ≡ x ∷ others → FirstHasRoom words heads lanes → words ≤ vec_capacity x.desk.words
first_has lanes others x words heads is room = (subst (FirstHasRoom words heads) is room).0

-- what one of them makes fits where all of it does
pub fits_in : {A : Type 0} → (f : Lane LeafDesk → List A) (lanes : List (Lane LeafDesk)) (at : ℕ) (none : Lane LeafDesk) → at < length lanes → length (flat_map f (take at lanes)) + length (f (slice_index_or lanes at none)) ≤ length (flat_map f lanes)
fits_in f [] at none within = absurd (omega arith)
fits_in f (x ∷ lanes) zero none within = omega (arith, length-append (f x) (flat_map f lanes))
fits_in f (x ∷ lanes) (suc at) none within = omega (arith, length-append (f x) (flat_map f lanes), length-append (f x) (flat_map f (take at lanes)), fits_in f lanes at none (omega arith))

-- ---- turns

pub numbered_more : (first : ℕ) (lanes : List (Lane LeafDesk)) (lane : Lane LeafDesk) → AreLanesFrom first lanes → lane.lane ≡ first + length lanes → AreLanesFrom first (lanes ++ lane ∷ [])
numbered_more first [] lane numbered is = (is ∙ add-zero first, tt)
numbered_more first (x ∷ lanes) lane numbered is = (numbered.0, numbered_more (first + 1) lanes lane numbered.1 (omega arith))

pub took_turns : (whole : ChunkView) (passed : ℕ → ℕ → Type 0) (first from to : ℕ) (xs ys : List (Lane LeafDesk)) → AreLaid whole from to xs → AreLanesFrom first xs → EachPlace (RanSteps Did passed) xs ys
    → (at turn : ℕ) → at < length xs → turn < 2 → passed (first + at) turn
took_turns whole passed first from to [] ys laid numbered each at turn within two = absurd (omega arith)
took_turns whole passed first from to (x ∷ xs) ys laid numbered each zero turn within two =
    let steps = laid.2.steps in
    let ran = each 0 x (omega arith) in
    subst (λ (n : ℕ). passed n turn) (numbered.0 ∙ sym (add-zero first)) (ran.turns turn (omega arith))
took_turns whole passed first from to (x ∷ xs) [] laid numbered each (suc at) turn within two =
    let place : first + 1 + at ≡ first + suc at = omega arith in
    subst (λ (n : ℕ). passed n turn) place (took_turns whole passed (first + 1) laid.0 to xs [] laid.3 numbered.1 (λ p none low. each (suc p) none (omega arith)) at turn (omega arith) two)
took_turns whole passed first from to (x ∷ xs) (y ∷ ys) laid numbered each (suc at) turn within two =
    let place : first + 1 + at ≡ first + suc at = omega arith in
    subst (λ (n : ℕ). passed n turn) place (took_turns whole passed (first + 1) laid.0 to xs ys laid.3 numbered.1 (λ p none low. each (suc p) none (omega arith)) at turn (omega arith) two)

-- ---- all leaves

pub all_words : (l : Leaves) → HasLeafFacts l → length (chunk_words (whole_of l)) ≤ words_room l
all_words l are = elim (cases_Bool (length l.ends.items == 1)) [
  | inl one ↦ let is = ap (λ (b : Built). length b.words) (are.alone (eqb-true (length l.ends.items) 1 one)) in omega (arith, is, are.even)
  | inr more ↦
      let above = above_leaves l.kind l.items.items l.ends.items l.parents.items in
      let is = ap (λ (b : Built). length b.words) (are.several (eqb-false (length l.ends.items) 1 more)) in
      omega (arith, is, are.even, length-append (chunk_words (whole_of l)) above.words)
]

-- what was made at the desks of all lanes is that of all leaves, and the first lane has room for it
pub record AllMade (l : Leaves) (lanes : List (Lane LeafDesk)) : Type 0 where
  pub words : words_made lanes ≡ chunk_words (whole_of l)
  pub heads : heads_made lanes ≡ heads_in (whole_of l)
  pub room : FirstHasRoom (words_room l) (length l.ends.items) lanes
  pub fits : FirstHasRoom (length (words_made lanes)) (length (heads_made lanes)) lanes

pub all_made : (l : Leaves) (passed : ℕ → ℕ → Type 0) (before after : List (Lane LeafDesk)) → HasLeafFacts l → AreLaid (whole_of l) 0 (length l.ends.items) before → length after ≡ length before → EachPlace (RanSteps Did passed) before after
    → FirstHasRoom (words_room l) (length l.ends.items) before → AllMade l after
all_made l passed before after are laid same each room =
    let whole = whole_of l in
    let n = length l.ends.items in
    let words = laid_words whole are.whole refl passed 0 n before after (omega arith) laid same each ∙ words_all whole are.whole refl passed in
    let heads = laid_heads whole are.whole refl passed 0 n before after (omega arith) laid same each ∙ heads_all whole are.whole refl passed in
    let kept = room_kept whole passed 0 n (words_room l) n before after laid same each room in
    let few = all_words l are in
    record {
      words = words;
      heads = heads;
      room = kept;
      fits = less_room (length (words_made after)) (length (heads_made after)) (words_room l) n after (omega (arith, ap length words, few)) (omega (arith, ap length heads, length_heads_in whole)) kept;
    }
