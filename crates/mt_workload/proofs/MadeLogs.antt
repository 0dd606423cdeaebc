-- The log that is made of a number is one that can be read, and has as many lines as it is asked for.
use Rattle.mt_workload.proofs.Prelude.{◌≡◌, ℕ, zero, suc, ◌+◌, ◌*◌, ◌/◌, ◌%◌, ◌≤◌, ◌<◌, Bool, true, false, List, [], ◌∷◌, ◌++◌, None, length, min, cond, codes, arith, inl, inr, refl, sym, ap, ◌∙◌, subst, ◌==◌, nat_le, cases_lt, le-ltb, lt-ltb, append-nil, length-append, Call, Erase, Alloc, Ralloc, Load, Find, IsInPlace, HasTreeRoom, ReadSoFar, after_item, most_scan_steps, nothing_read, scan_steps_of, IsReadable, NamesBelow, known_after, tree_declared_by, Item, Tree, Lane, Write, Ask, Scan, KnownTree, CallSays, CanAllFollow, CanFollow, IsNumber, ItemSays, at_line, are_readable, Drawing, draw_below, area_step, drawn_entry, drawn_size, index_step, lanes_from, last_index, made, numbered, step, step_by, steps, steps_of_lane, store_step}
use Rattle.mt_base.specs.declared.kinds.Kind.TheVariants as kinds
use Rattle.mt_workload.proofs.Drawn.{below_below}
use Rattle.mt_workload.proofs.Numbered.{length-numbered}
use Rattle.mt_base.specs.Limits.{most_lanes, most_steps}

-- ---- lines of one tree

-- a line that may stand anywhere behind the first tree's declaration, and declares none
record IsAnywhere (item : Item) : Type 0 where
  named : NamesBelow 1 item
  placed : (stepped : Bool) → IsInPlace stepped item
  room : (trees : List KnownTree) → HasTreeRoom trees item
  known : (trees : List KnownTree) → tree_declared_by trees item ≡ None
  few : scan_steps_of item ≤ 4
  says : ItemSays item

AreAnywhere : List Item → Type 0
AreAnywhere [] = Unit {0}
AreAnywhere (item ∷ items) = IsAnywhere item × AreAnywhere items

all_append : (items others : List Item) → AreAnywhere items → AreAnywhere others → AreAnywhere (items ++ others)
unfolding AreAnywhere
all_append [] others h g = g
all_append (item ∷ items) others h g = (h.0, all_append items others h.1 g)

-- such lines can follow the declaration of one tree
all_follow : (items : List Item) (r : ReadSoFar) (number : ℕ) → AreAnywhere items → length r.trees ≡ 1 → r.next ≤ number → r.scanned + 4 * length items ≤ most_scan_steps → CanAllFollow r (numbered number items)
unfolding AreAnywhere
all_follow [] r number h one above room = tt
all_follow (item ∷ items) r number h one above room =
    let few = h.0.few in
    let trees : length (known_after r.trees item) ≡ 1 = rw (h.0.known r.trees) (ap length (append-nil r.trees) ∙ one) in
    let can : CanFollow r item = record { follows = record { named = subst (λ (k : ℕ). NamesBelow k item) (sym one) h.0.named; placed = h.0.placed r.stepped; trees = h.0.room r.trees; scans = omega arith }; says = h.0.says } in
    (above, can, all_follow items (after_item (at_line number r) item) (number + 1) h.1 trees (omega arith) (omega arith))

-- ---- steps

call_anywhere : (call : Call) → CallSays call → IsAnywhere (Write 0 call)
call_anywhere call says = record { named = omega arith; placed = λ stepped. tt; room = λ trees. tt; known = λ trees. refl; few = omega arith; says = says }

entry_is_number : (x : ℕ) → IsNumber (drawn_entry x).0
unfolding drawn_entry
entry_is_number x = let drawn = below_below 1000000 x (omega arith) in omega arith

size_is_small : (x : ℕ) → (drawn_size x).0 ≤ 512
unfolding drawn_size
size_is_small x = let drawn = below_below 509 x (omega arith) in omega arith

area_anywhere : (call : ℕ → ℕ → ℕ → ℕ → Call) → ((n a b e : ℕ) → IsNumber n → IsNumber a → IsNumber b → IsNumber e → CallSays (call n a b e)) → (x : ℕ) → IsAnywhere (area_step call x).0
unfolding area_step
area_anywhere call says x =
    let small = size_is_small x in
    call_anywhere (call (drawn_size x).0 0 last_index (drawn_entry (drawn_size x).1).0) (says (drawn_size x).0 0 last_index (drawn_entry (drawn_size x).1).0 (omega arith) (omega arith) (omega arith) (entry_is_number (drawn_size x).1))

store_anywhere : (x : ℕ) → IsAnywhere (store_step x).0
unfolding store_step
store_anywhere x =
    let first = below_below 4190000 x (omega arith) in
    let small = size_is_small (draw_below 4190000 x).1 in
    let entry = entry_is_number (drawn_size (draw_below 4190000 x).1).1 in
    call_anywhere _ (omega arith, omega arith, entry)

index_anywhere : (item : ℕ → Item) → ((index : ℕ) → IsNumber index → IsAnywhere (item index)) → (x : ℕ) → IsAnywhere (index_step item x).0
unfolding index_step
index_anywhere item can x = let drawn = below_below 4194304 x (omega arith) in can (draw_below 4194304 x).0 (omega arith)

either : (b : Bool) (f g : Drawing Item) (x : ℕ) → IsAnywhere (f x).0 → IsAnywhere (g x).0 → IsAnywhere (cond b f g x).0
either true f g x hf hg = hf
either false f g x hf hg = hg

step_by_anywhere : (d x : ℕ) → IsAnywhere (step_by d x).0
unfolding step_by
step_by_anywhere d x =
    either (nat_le d 5) _ _ x (area_anywhere Alloc (λ n a b e hn ha hb he. (hn, ha, hb, he)) x)
    (either (d == 6) _ _ x (area_anywhere Ralloc (λ n a b e hn ha hb he. (hn, ha, hb, he)) x)
    (either (d == 7) _ _ x (store_anywhere x)
    (either (nat_le d 9) _ _ x (index_anywhere (λ index. Write 0 (Erase index)) (λ index number. call_anywhere (Erase index) number) x)
    (either (nat_le d 13) _ _ x (index_anywhere (λ index. Ask 0 (Load index)) (λ index number. record { named = omega arith; placed = λ stepped. tt; room = λ trees. tt; known = λ trees. refl; few = omega arith; says = number }) x)
    (either (d == 14) _ _ x (index_anywhere (λ index. Ask 0 (Find index last_index)) (λ index number. record { named = omega arith; placed = λ stepped. tt; room = λ trees. tt; known = λ trees. refl; few = omega arith; says = (number, omega arith) }) x)
    (index_anywhere (λ index. Scan 0 index last_index 4) (λ index number. record { named = omega arith; placed = λ stepped. tt; room = λ trees. tt; known = λ trees. refl; few = omega arith; says = (number, omega arith, omega arith, omega arith) }) x))))))

step_anywhere : (x : ℕ) → IsAnywhere (step x).0
unfolding step
step_anywhere x = step_by_anywhere (draw_below 16 x).0 (draw_below 16 x).1

steps_anywhere : (count x : ℕ) → AreAnywhere (steps count x).0
unfolding steps AreAnywhere
steps_anywhere zero x = tt
steps_anywhere (suc count) x = (step_anywhere x, steps_anywhere count (step x).1)

so_many_steps : (count x : ℕ) → length (steps count x).0 ≡ count
unfolding steps
so_many_steps zero x = refl
so_many_steps (suc count) x = ap (λ k. suc k) (so_many_steps count (step x).1)

-- ---- lanes

lane_anywhere : (lane : ℕ) → lane < most_lanes → IsAnywhere (Lane lane)
lane_anywhere lane draw_below = record { named = draw_below; placed = λ stepped. tt; room = λ trees. tt; known = λ trees. refl; few = omega arith; says = tt }

lanes_anywhere : (count : ℕ → ℕ) (lane more x : ℕ) → lane + more ≤ most_lanes → AreAnywhere (lanes_from count lane more x).0
unfolding lanes_from AreAnywhere
lanes_anywhere count lane zero x few = tt
lanes_anywhere count lane (suc more) x few =
    (lane_anywhere lane (omega arith), all_append (steps (count lane) x).0 (lanes_from count (lane + 1) more (steps (count lane) x).1).0 (steps_anywhere (count lane) x) (lanes_anywhere count (lane + 1) more (steps (count lane) x).1 (omega arith)))

-- how many steps the lanes have so far: a share each, and one more the first of them
share : (all lanes lane : ℕ) → steps_of_lane all lanes lane + min lane (all % lanes) ≡ all / lanes + min (lane + 1) (all % lanes)
unfolding steps_of_lane
share all lanes lane =
    elim (cases_lt lane (all % lanes)) [
      | inl lt ↦ rw (lt-ltb lane (all % lanes) lt) (omega arith)
      | inr ge ↦ rw (le-ltb lane (all % lanes) ge) (omega arith)
    ]

dealt : (all lanes lane more x : ℕ) → length (lanes_from (steps_of_lane all lanes) lane more x).0 + min lane (all % lanes) ≡ more + more * (all / lanes) + min (lane + more) (all % lanes)
unfolding lanes_from
dealt all lanes lane zero x = omega arith
dealt all lanes lane (suc more) x =
    let count : ℕ = steps_of_lane all lanes lane in
    let items : List Item = (steps count x).0 in
    let others : List Item = (lanes_from (steps_of_lane all lanes) (lane + 1) more (steps count x).1).0 in
    let long : length (items ++ others) ≡ length items + length others = length-append items others in
    let mine : length items ≡ count = so_many_steps count x in
    let theirs : length others + min (lane + 1) (all % lanes) ≡ more + more * (all / lanes) + min (lane + 1 + more) (all % lanes) = dealt all lanes (lane + 1) more (steps count x).1 in
    let shares : count + min lane (all % lanes) ≡ all / lanes + min (lane + 1) (all % lanes) = share all lanes lane in
    let last : lane + 1 + more ≡ lane + suc more = omega arith in
    let end : min (lane + 1 + more) (all % lanes) ≡ min (lane + suc more) (all % lanes) = ap (λ k. min k (all % lanes)) last in
    let product : suc more * (all / lanes) ≡ all / lanes + more * (all / lanes) = omega arith in
    omega (arith, long, mine, theirs, shares, end, product)

so_many_lines : (all lanes x : ℕ) → 1 ≤ lanes → length (lanes_from (steps_of_lane all lanes) 0 lanes x).0 ≡ lanes + all
so_many_lines all lanes x some = let all_dealt = dealt all lanes 0 lanes x in omega arith

-- ---- the log

pub made_follows : (number all lanes : ℕ) → all ≤ most_steps → 1 ≤ lanes → lanes ≤ most_lanes → CanAllFollow nothing_read (made number all lanes).lines
unfolding made
made_follows number all lanes few some lane_room =
    let items : List Item = (lanes_from (steps_of_lane all lanes) 0 lanes number).0 in
    let long : length items ≡ lanes + all = so_many_lines all lanes number some in
    let can : CanFollow nothing_read (Tree (codes "a") kinds.Alloc) = record { follows = record { named = tt; placed = refl; trees = (omega arith, refl); scans = omega arith }; says = refl } in
    (omega arith, can, all_follow items (after_item (at_line 2 nothing_read) (Tree (codes "a") kinds.Alloc)) 3 (lanes_anywhere (steps_of_lane all lanes) 0 lanes number (omega arith)) refl (omega arith) (omega arith))

pub made_is_readable : (number all lanes : ℕ) → all ≤ most_steps → 1 ≤ lanes → lanes ≤ most_lanes → IsReadable (made number all lanes).lines
made_is_readable number all lanes few some lane_room = are_readable (made number all lanes).lines (made_follows number all lanes few some lane_room)

pub made_long : (number all lanes : ℕ) → 1 ≤ lanes → length (made number all lanes).lines ≡ 1 + lanes + all
unfolding made
made_long number all lanes some =
    let items : List Item = (lanes_from (steps_of_lane all lanes) 0 lanes number).0 in
    let long : length items ≡ lanes + all = so_many_lines all lanes number some in
    omega (arith, length-numbered 3 items, long)
