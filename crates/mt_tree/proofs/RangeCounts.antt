-- How many ranges there are after a call.
use Rattle.mt_tree.proofs.Prelude.{◌≡◌, ◌∙◌, ℕ, suc, ◌+◌, ◌-◌, ◌<◌, ◌≤◌, Bool, true, false, List, [], ◌∷◌, ◌++◌, Option, Some, None, IfSome, length, nat_lt, nat_le, refl, sym, ap, subst, arith, inl, inr, Range, Kind, Call, Reply, stored_area, valid_order, acted, erased, is_bad_area, is_invalid, is_no_area, placed, IsRoom, high, low, IsMap, IsMapFrom, holding, holds, is_held, over, overlaps, part_stored, parts_above, parts_below, without, Store, StorePre, Insert, Erase, Alloc, Ralloc, Gap, Rgap, Clear, is_refusal, ranges_met, IsChange, IsCountAfter, IsCountBy, IsCountDone, IsCountGiven, part_before, part_behind, part_own, ranges_after, Change, ◌==◌, filter, not, ◌||◌, ◌&&◌, length-append, cases_Bool, le-leb, lt-leb, cases_lt, cond_both, le-ltb, lt-ltb, or_parts, high_is_room, low_is_room, reserved}
use Rattle.mt_base.specs.declared.replies.Reply.TheVariants as answers

-- ---- a store where no range is

one_part : (first last entry : ℕ) → (entry == 0) ≡ false → length (part_stored first last entry) ≡ 1
one_part first last entry some = rw some refl

-- a range that holds no index of an area lies below it or above it
free_parts : (m : List Range) (low first last : ℕ) → first ≤ last → IsMapFrom low m → is_held m first last ≡ false → length (parts_below m first) + length (parts_above m last) ≡ length m
free_parts [] low first last le rise free = refl
free_parts (r ∷ m) low first last le rise free =
    let parts = or_parts (overlaps first last r) (is_held m first last) free in
    let others = free_parts m (r.last + 1) first last le rise.3 parts.1 in
    elim (cases_lt r.last first) [
      | inl below ↦ rw (lt-ltb r.first first (omega (arith, rise.1, below)), le-ltb last r.last (omega (arith, below, le))) (omega (arith, others))
      | inr reaches ↦ elim (cases_lt last r.first) [
        | inl above ↦ rw (le-ltb r.first first (omega (arith, above, le)), lt-ltb last r.last (omega (arith, above, rise.1))) (omega (arith, others))
        | inr begins ↦
            let one : nat_le r.first last ≡ true = le-leb r.first last begins in
            let two : nat_le first r.last ≡ true = le-leb first r.last reaches in
            let both : true ≡ false = rw (one, two) at parts.0 in
            absurd (cc)
      ]
    ]

pub free_counts : (m : List Range) (first last entry : ℕ) → first ≤ last → (entry == 0) ≡ false → IsMapFrom 0 m → is_held m first last ≡ false → length (over m first last entry) ≡ length m + 1
free_counts m first last entry le some rise free =
    omega (arith, free_parts m 0 first last le rise free, one_part first last entry some, length-append (parts_below m first) (part_stored first last entry ++ parts_above m last), length-append (part_stored first last entry) (parts_above m last))

-- ---- an erase

none_without : (m : List Range) (low index : ℕ) → IsMapFrom low m → index < low → length (without m index) ≡ length m
none_without [] low index rise above = refl
none_without (r ∷ m) low index rise above = rw (lt-leb r.first index (omega (arith, rise.0, above))) (ap suc (none_without m (r.last + 1) index rise.3 (omega (arith, rise.0, rise.1, above))))

one_without : (m : List Range) (low index : ℕ) (held : Range) → IsMapFrom low m → holding m index ≡ Some held → length (without m index) + 1 ≡ length m
one_without [] low index held rise is = absurd (cc)
one_without (r ∷ m) low index held rise is =
    elim (cases_lt index r.first) [
      | inl above ↦
          let out = lt-leb r.first index above in
          let there : holding m index ≡ Some held = rw out at is in
          rw out (omega (arith, one_without m (r.last + 1) index held rise.3 there))
      | inr from ↦
          let begins = le-leb r.first index from in
          elim (cases_lt r.last index) [
            | inl below ↦
                let out = lt-leb index r.last below in
                let there : holding m index ≡ Some held = rw (begins, out) at is in
                rw (begins, out) (omega (arith, one_without m (r.last + 1) index held rise.3 there))
            | inr reaches ↦ rw (begins, le-leb index r.last reaches) (omega (arith, none_without m (r.last + 1) index rise.3 (omega (arith, reaches))))
          ]
    ]

-- ---- calls that were made

module _ (kind : Kind) (m : List Range) (is : IsMap kind m) (m' : List Range) (reply : Reply) where
  abbrev After : Type 0
  After = List Range × Reply

  refused_not : (x : After) → is_refusal x.1 ≡ true → is_refusal reply ≡ false → x ≡ (m', reply) → ⊥
  refused_not x refused done same = let also : is_refusal x.1 ≡ false = ap (λ (y : After). is_refusal y.1) same ∙ done in let clash : true ≡ false = sym refused ∙ also in cc

  placed_counts : (size lo hi entry : ℕ) (start : Option ℕ) → is_bad_area kind size lo hi entry ≡ false → ((s : ℕ) → start ≡ Some s → IsRoom m size lo hi s) → is_refusal reply ≡ false → placed m size entry start ≡ (m', reply) → length m' ≡ length m + 1
  placed_counts size lo hi entry None valid room done same = absurd (refused_not (m, answers.Busy) refl done same)
  placed_counts size lo hi entry (Some s) valid room done same =
      let area = stored_area kind size lo hi entry valid in
      let some : (entry == 0) ≡ false = (or_parts (reserved entry) (entry == 0) (or_parts (is_no_area kind size lo hi) _ valid).1).1 in
      ap (λ (x : After). length x.0) (sym same) ∙ free_counts m s (s + size - 1) entry (omega (arith, area.some)) some is.rise (room s refl).free

  pub alloc_counts : (size lo hi entry : ℕ) → is_refusal reply ≡ false → acted kind m (Alloc size lo hi entry) ≡ (m', reply) → length m' ≡ length m + 1
  alloc_counts size lo hi entry done =
      cond_both (is_bad_area kind size lo hi entry) _ _ (λ (x : After). x ≡ (m', reply) → length m' ≡ length m + 1)
      (λ invalid same. absurd (refused_not (m, answers.Invalid) refl done same))
      (λ valid. placed_counts size lo hi entry (low kind m size lo hi) valid (λ s. low_is_room kind m size lo hi s is (stored_area kind size lo hi entry valid).some) done)

  pub ralloc_counts : (size lo hi entry : ℕ) → is_refusal reply ≡ false → acted kind m (Ralloc size lo hi entry) ≡ (m', reply) → length m' ≡ length m + 1
  ralloc_counts size lo hi entry done =
      cond_both (is_bad_area kind size lo hi entry) _ _ (λ (x : After). x ≡ (m', reply) → length m' ≡ length m + 1)
      (λ invalid same. absurd (refused_not (m, answers.Invalid) refl done same))
      (λ valid. placed_counts size lo hi entry (high kind m size lo hi) valid (λ s. high_is_room kind m size lo hi s is (stored_area kind size lo hi entry valid).some) done)

  pub insert_counts : (first last entry : ℕ) → is_refusal reply ≡ false → acted kind m (Insert first last entry) ≡ (m', reply) → length m' ≡ length m + 1
  insert_counts first last entry done =
      cond_both (is_invalid kind first last entry || (entry == 0)) _ _ (λ (x : After). x ≡ (m', reply) → length m' ≡ length m + 1)
      (λ invalid same. absurd (refused_not (m, answers.Invalid) refl done same))
      (λ valid. cond_both (is_held m first last) _ _ (λ (x : After). x ≡ (m', reply) → length m' ≡ length m + 1)
      (λ held same. absurd (refused_not (m, answers.Exists) refl done same))
      (λ free same.
      let parts = or_parts (is_invalid kind first last entry) (entry == 0) valid in
      ap (λ (x : After). length x.0) (sym same) ∙ free_counts m first last entry (valid_order kind first last entry parts.0) parts.1 is.rise free))

  pub erase_counts : (index : ℕ) → is_refusal reply ≡ false → acted kind m (Erase index) ≡ (m', reply) → length m' + 1 ≡ length m
  erase_counts index done same = by (holding m index) refl same
    where
      by : (held : Option Range) → holding m index ≡ held → erased m index held ≡ (m', reply) → length m' + 1 ≡ length m
      by None none same = absurd (refused_not (m, answers.None) refl done same)
      by (Some r) there same = let all : length m' ≡ length (without m index) = ap (λ (x : After). length x.0) (sym same) in omega (arith, all, one_without m 0 index r is.rise there)

-- no call leaves more ranges than there may be after it
module _ (kind : Kind) (m : List Range) (is : IsMap kind m) where
  placed_few : (size lo hi entry : ℕ) (start : Option ℕ) → is_bad_area kind size lo hi entry ≡ false → ((s : ℕ) → start ≡ Some s → IsRoom m size lo hi s) → length (placed m size entry start).0 ≤ length m + 1
  placed_few size lo hi entry None valid room = omega arith
  placed_few size lo hi entry (Some s) valid room =
      let all = placed_counts kind m is (over m s (s + size - 1) entry) (answers.Start s) size lo hi entry (Some s) valid room refl refl in
      omega (arith, all)

  pub few_acted : (call : Call) → length (acted kind m call).0 ≤ ranges_after kind m call
  few_acted (Store first last entry) = omega arith
  few_acted (StorePre first last entry) = omega arith
  few_acted (Insert first last entry) =
      cond_both (is_invalid kind first last entry || (entry == 0)) _ _ (λ (x : List Range × Reply). length x.0 ≤ length m + 1)
      (λ invalid. omega arith)
      (λ valid. cond_both (is_held m first last) _ _ (λ (x : List Range × Reply). length x.0 ≤ length m + 1)
      (λ held. omega arith)
      (λ free.
      let parts = or_parts (is_invalid kind first last entry) (entry == 0) valid in
      let all = free_counts m first last entry (valid_order kind first last entry parts.0) parts.1 is.rise free in
      omega (arith, all)))
  few_acted (Erase index) = omega arith
  few_acted (Alloc size lo hi entry) =
      cond_both (is_bad_area kind size lo hi entry) _ _ (λ (x : List Range × Reply). length x.0 ≤ length m + 1)
      (λ invalid. omega arith)
      (λ valid. placed_few size lo hi entry (low kind m size lo hi) valid (λ s. low_is_room kind m size lo hi s is (stored_area kind size lo hi entry valid).some))
  few_acted (Ralloc size lo hi entry) =
      cond_both (is_bad_area kind size lo hi entry) _ _ (λ (x : List Range × Reply). length x.0 ≤ length m + 1)
      (λ invalid. omega arith)
      (λ valid. placed_few size lo hi entry (high kind m size lo hi) valid (λ s. high_is_room kind m size lo hi s is (stored_area kind size lo hi entry valid).some))
  few_acted (Gap size lo hi) = omega arith
  few_acted (Rgap size lo hi) = omega arith
  few_acted Clear = omega arith

-- ---- a store over ranges

-- whether a range that holds an index begins below it, or ends above it
abbrev begins_below : ℕ → Range → Bool
begins_below index r = nat_lt r.first index && nat_le index r.last

abbrev ends_above : ℕ → Range → Bool
ends_above index r = nat_le r.first index && nat_lt index r.last

-- Each range is kept below a store, or above it, or is met. One that is met is kept, too, on either side where it ends outside.
pieces : (m : List Range) (low first last : ℕ) → first ≤ last → IsMapFrom low m
    → length (parts_below m first) + length (parts_above m last) + length (filter (overlaps first last) m) ≡ length m + length (filter (begins_below first) m) + length (filter (ends_above last) m)
pieces [] low first last le rise = refl
pieces (r ∷ m) low first last le rise =
    let others = pieces m (r.last + 1) first last le rise.3 in
    elim (cases_lt r.first first) [
      | inl begins ↦ elim (cases_lt r.last first) [
        | inl below ↦ rw (lt-ltb r.first first begins, le-ltb last r.last (omega (arith, below, le)), le-leb r.first last (omega (arith, begins, le)), lt-leb first r.last below) (omega (arith, others))
        | inr meets ↦ elim (cases_lt last r.last) [
          | inl beyond ↦ rw (lt-ltb r.first first begins, lt-ltb last r.last beyond, le-leb r.first last (omega (arith, begins, le)), le-leb first r.last meets) (omega (arith, others))
          | inr within ↦ rw (lt-ltb r.first first begins, le-ltb last r.last within, le-leb r.first last (omega (arith, begins, le)), le-leb first r.last meets) (omega (arith, others))
        ]
      ]
      | inr from ↦ elim (cases_lt last r.first) [
        | inl above ↦ rw (le-ltb r.first first from, lt-ltb last r.last (omega (arith, above, rise.1)), lt-leb r.first last above) (omega (arith, others))
        | inr inside ↦ elim (cases_lt last r.last) [
          | inl beyond ↦ rw (le-ltb r.first first from, lt-ltb last r.last beyond, le-leb r.first last inside, le-leb first r.last (omega (arith, from, rise.1))) (omega (arith, others))
          | inr within ↦ rw (le-ltb r.first first from, le-ltb last r.last within, le-leb r.first last inside, le-leb first r.last (omega (arith, from, rise.1))) (omega (arith, others))
        ]
      ]
    ]

none_begins : (m : List Range) (low index : ℕ) → IsMapFrom low m → index ≤ low → length (filter (begins_below index) m) ≡ 0
none_begins [] low index rise le = refl
none_begins (r ∷ m) low index rise le = rw (le-ltb r.first index (omega (arith, rise.0, le))) (none_begins m (r.last + 1) index rise.3 (omega (arith, rise.0, rise.1, le)))

-- at most one range holds an index
one_before : (m : List Range) (low index : ℕ) → IsMapFrom low m → length (filter (begins_below index) m) ≡ part_before index (holding m index)
one_before [] low index rise = refl
one_before (r ∷ m) low index rise =
    elim (cases_lt r.last index) [
      | inl below ↦ rw (le-leb r.first index (omega (arith, rise.1, below)), lt-ltb r.first index (omega (arith, rise.1, below)), lt-leb index r.last below) (one_before m (r.last + 1) index rise.3)
      | inr reaches ↦
          let others = none_begins m (r.last + 1) index rise.3 (omega (arith, reaches)) in
          elim (cases_lt r.first index) [
            | inl begins ↦ rw (le-leb r.first index (omega (arith, begins)), le-leb index r.last reaches, lt-ltb r.first index begins) (omega (arith, others))
            | inr from ↦ elim (cases_lt index r.first) [
              | inl above ↦ rw (lt-leb r.first index above, le-ltb r.first index from) (one_before m (r.last + 1) index rise.3)
              | inr begin ↦ rw (le-leb r.first index begin, le-leb index r.last reaches, le-ltb r.first index from) (omega (arith, others))
            ]
          ]
    ]

none_ends : (m : List Range) (low index : ℕ) → IsMapFrom low m → index < low → length (filter (ends_above index) m) ≡ 0
none_ends [] low index rise above = refl
none_ends (r ∷ m) low index rise above = rw (lt-leb r.first index (omega (arith, rise.0, above))) (none_ends m (r.last + 1) index rise.3 (omega (arith, rise.0, rise.1, above)))

one_behind : (m : List Range) (low index : ℕ) → IsMapFrom low m → length (filter (ends_above index) m) ≡ part_behind index (holding m index)
one_behind [] low index rise = refl
one_behind (r ∷ m) low index rise =
    elim (cases_lt index r.first) [
      | inl above ↦ rw (lt-leb r.first index above) (one_behind m (r.last + 1) index rise.3)
      | inr from ↦ elim (cases_lt r.last index) [
        | inl below ↦ rw (le-leb r.first index from, lt-leb index r.last below, le-ltb index r.last (omega (arith, below))) (one_behind m (r.last + 1) index rise.3)
        | inr reaches ↦
            let others = none_ends m (r.last + 1) index rise.3 (omega (arith, reaches)) in
            elim (cases_lt index r.last) [
              | inl beyond ↦ rw (le-leb r.first index from, le-leb index r.last reaches, lt-ltb index r.last beyond) (omega (arith, others))
              | inr within ↦ rw (le-leb r.first index from, le-leb index r.last reaches, le-ltb index r.last within) (omega (arith, others))
            ]
      ]
    ]

pub few_pass : (p : Range → Bool) (m : List Range) → length (filter p m) ≤ length m
few_pass p [] = omega arith
few_pass p (r ∷ m) = let few = few_pass p m in elim (cases_Bool (p r)) [ inl kept ↦ rw kept (omega (arith, few)) | inr gone ↦ rw gone (omega (arith, few)) ]

own_counts : (first last entry : ℕ) → length (part_stored first last entry) ≡ part_own entry
own_counts first last entry = elim (cases_Bool (entry == 0)) [ inl none ↦ rw none refl | inr some ↦ rw some refl ]

store_counts : (m : List Range) (first last entry : ℕ) → first ≤ last → IsMapFrom 0 m
    → length (over m first last entry) + length (filter (overlaps first last) m) ≡ length m + (part_before first (holding m first) + part_behind last (holding m last) + part_own entry)
store_counts m first last entry le rise =
    omega (arith, pieces m 0 first last le rise, one_before m 0 first rise, one_behind m 0 last rise, own_counts first last entry, length-append (parts_below m first) (part_stored first last entry ++ parts_above m last), length-append (part_stored first last entry) (parts_above m last))

-- what a store changes, by what was read of an engine
pub change_is : (m : List Range) (first last entry gone : ℕ) (c : Change) → first ≤ last → IsMapFrom 0 m → gone ≡ length (ranges_met m first last) → part_before first (holding m first) ≤ 1 → part_behind last (holding m last) ≤ 1 → part_own entry ≤ 1
    → c.gone ≡ gone → c.kept ≡ part_before first (holding m first) + part_behind last (holding m last) + part_own entry → IsChange m first last entry c
change_is m first last entry gone c le rise met one two three gone_is kept_is =
    let all : length (ranges_met m first last) ≡ length (filter (overlaps first last) m) = rw (le-leb first last le) refl in
    record {
      gone = omega (arith, gone_is, met, all, few_pass (overlaps first last) m);
      kept = omega (arith, kept_is, one, two, three);
      all = omega (arith, gone_is, met, all, kept_is, store_counts m first last entry le rise);
    }

-- ---- an erase adds none

pub few_erased : (kind : Kind) (m : List Range) (index : ℕ) → length (acted kind m (Erase index)).0 ≤ length m
few_erased kind m index = by (holding m index)
  where
    by : (held : Option Range) → length (erased m index held).0 ≤ length m
    by None = omega arith
    by (Some r) = few_pass (λ (x : Range). not (holds index x)) m

-- ---- a number that is kept

count_by : (change : ℕ → ℕ) (before after : Option ℕ) (n n' : ℕ) → IsCountBy change before after → IfSome before (λ k. k ≡ n) → n' ≡ change n → IfSome after (λ k. k ≡ n')
count_by change before None n n' by known is = tt
count_by change None (Some k) n n' by known is = absurd by
count_by change (Some k) (Some k') n n' by known is = by ∙ (ap change known ∙ sym is)

count_same : (before after : Option ℕ) (n n' : ℕ) → after ≡ before → IfSome before (λ k. k ≡ n) → n' ≡ n → IfSome after (λ k. k ≡ n')
count_same before after n n' same known is = subst (λ (x : Option ℕ × ℕ). IfSome x.0 (λ k. k ≡ x.1)) (λ i. (sym same i, sym is i)) known

module _ (kind : Kind) (m : List Range) (is : IsMap kind m) (m' : List Range) (reply : Reply) (done : is_refusal reply ≡ false) (before after : Option ℕ) (known : IfSome before (λ k. k ≡ length m)) where
  done_counts : (call : Call) → acted kind m call ≡ (m', reply) → IsCountDone before call after → IfSome after (λ k. k ≡ length m')
  done_counts (Store first last entry) same count = subst (λ (o : Option ℕ). IfSome o (λ k. k ≡ length m')) (sym count) tt
  done_counts (StorePre first last entry) same count = subst (λ (o : Option ℕ). IfSome o (λ k. k ≡ length m')) (sym count) tt
  done_counts (Insert first last entry) same count = count_by (λ (k : ℕ). k + 1) before after (length m) (length m') count known (insert_counts kind m is m' reply first last entry done same)
  done_counts (Erase index) same count = count_by (λ (k : ℕ). k - 1) before after (length m) (length m') count known (let all = erase_counts kind m is m' reply index done same in omega (arith, all))
  done_counts (Alloc size lo hi entry) same count = count_by (λ (k : ℕ). k + 1) before after (length m) (length m') count known (alloc_counts kind m is m' reply size lo hi entry done same)
  done_counts (Ralloc size lo hi entry) same count = count_by (λ (k : ℕ). k + 1) before after (length m) (length m') count known (ralloc_counts kind m is m' reply size lo hi entry done same)
  done_counts (Gap size lo hi) same count = count_same before after (length m) (length m') count known (sym (ap (λ (x : List Range × Reply). length x.0) same))
  done_counts (Rgap size lo hi) same count = count_same before after (length m) (length m') count known (sym (ap (λ (x : List Range × Reply). length x.0) same))
  done_counts Clear same count = subst (λ (o : Option ℕ). IfSome o (λ k. k ≡ length m')) (sym count) (ap (λ (x : List Range × Reply). length x.0) same)

  given_counts : (call : Call) (given : Option ℕ) → acted kind m call ≡ (m', reply) → IfSome given (λ n. n ≡ length (acted kind m call).0) → IsCountGiven given before call after → IfSome after (λ k. k ≡ length m')
  given_counts call None same told count = done_counts call same count
  given_counts call (Some n) same told count = subst (λ (o : Option ℕ). IfSome o (λ k. k ≡ length m')) (sym count) (told ∙ ap (λ (x : List Range × Reply). length x.0) same)

-- how many there are after a call that was made, or refused
pub made_counts : (kind : Kind) (m m' : List Range) (call : Call) (reply : Reply) (given before after : Option ℕ) → IsMap kind m → (is_refusal reply ≡ true → m' ≡ m) → (is_refusal reply ≡ false → acted kind m call ≡ (m', reply))
    → IfSome given (λ n. n ≡ length (acted kind m call).0) → IfSome before (λ n. n ≡ length m) → IsCountAfter given before call reply after → IfSome after (λ n. n ≡ length m')
made_counts kind m m' call reply given before after is kept acts told known count = elim (cases_Bool (is_refusal reply)) [
  | inl refused ↦ count_same before after (length m) (length m') (rw refused at count) known (ap length (kept refused))
  | inr done ↦ given_counts kind m is m' reply done before after known call given (acts done) told (rw done at count)
]
