-- The reserve of a tree is enough for each of its calls, and lasts where no call breaks it.
use Rattle.mt_tree.proofs.Prelude.{◌≡◌, ◌≢◌, ◌↔◌, ◌∙◌, ◌⊎◌, ℕ, zero, suc, ◌+◌, ◌-◌, ◌*◌, ◌<◌, ◌≤◌, Bool, true, false, List, Option, Some, None, IfSome, IsTrue, length, nat_le, refl, sym, ap, subst, arith, inl, inr, cases_lt, cond_both, Kind, Range, Call, Shortage, IsShort, Form, Parts, Rooted, acted, form_of, is_invalid, map_by, over, tree_as, valid_order, Limits, Store, StorePre, Erase, Gap, Rgap, Clear, most_rows, BreaksReserve, TellsChange, IsChange, IsGain, IsReserveVerdict, most_after, ranges_after, range_count, level_from, levels_from, rows_for, rows_told, Change, ReserveVerdict, ◌^◌, not, cases_Bool, le-leb, leb-false, leb-true}
use Rattle.mt_tree.proofs.RangeCounts.{few_erased}
use Rattle.mt_tree.proofs.RowsFor.{enough, one_more}

-- ---- more ranges need no fewer nodes

level_more : (a b least : ℕ) → a ≤ b → level_from a least ≤ level_from b least
level_more a b least le =
    cond_both (nat_le least a) _ _ (λ (n : ℕ). n ≤ level_from b least)
    (λ there. (let one = one_more b least (omega (arith, le, leb-true least a there)) in omega (arith, one)))
    (λ none. omega arith)

levels_more : (a b least more : ℕ) → a ≤ b → levels_from a least more ≤ levels_from b least more
levels_more a b least zero le = omega arith
levels_more a b least (suc more) le = let one = level_more a b least le in let rest = levels_more a b (4 * least) more le in omega (arith, one, rest)

pub rows_more : (a b : ℕ) → a ≤ b → rows_for a ≤ rows_for b
rows_more a b le = let levels = levels_more (2 * a + 1) (2 * b + 1) 12 8 (omega (arith, le)) in omega (arith, le, levels)

-- ---- it is enough

pub never_short : (l : Limits) (m : List Range) (s : Shortage) → rows_for (length m) ≤ l.rows → IsShort l m s → s.held ≢ 0
never_short l m s kept short = λ none. (let few = enough (length m) (rows_for (length m)) refl l m s (omega arith) short none in omega (arith, kept, few))

-- ---- it lasts

pub kept_through : (n after n' rows : ℕ) → rows_for n ≤ rows → (n' ≤ after) ⊎ (n' ≤ n) → ((n < after) × (rows < rows_for after) → ⊥) → rows_for n' ≤ rows
kept_through n after n' rows kept most not =
    elim (cases_lt n after) [
      | inl adds ↦ elim (cases_lt rows (rows_for after)) [
        | inl few ↦ absurd (not (adds, few))
        | inr room ↦ elim most [
          | inl small ↦ (let more = rows_more n' after small in omega (arith, more, room))
          | inr small ↦ (let more = rows_more n' after (omega (arith, small, adds)) in omega (arith, more, room))
        ]
      ]
      | inr none ↦ elim most [
        | inl small ↦ (let more = rows_more n' n (omega (arith, small, none)) in omega (arith, more, kept))
        | inr small ↦ (let more = rows_more n' n small in omega (arith, more, kept))
      ]
    ]

-- ---- whether it is there

told_is : (n : ℕ) → ((rows_told n ≡ rows_for n) × (rows_for n ≤ most_rows)) ⊎ ((rows_told n ≡ 2 ^ 64 - 1) × (most_rows < rows_for n))
told_is n = elim (cases_Bool (nat_le (rows_for n) most_rows)) [
  | inl low ↦ inl (rw low refl, leb-true (rows_for n) most_rows low)
  | inr high ↦ inr (rw high refl, leb-false (rows_for n) most_rows high)
]

pub told_room : (rows n least : ℕ) → rows ≤ most_rows → least ≡ rows_told n → IsTrue (nat_le least rows) ↔ (rows_for n ≤ rows)
told_room rows n least low is = (
  λ fits. (let within = leb-true least rows fits in elim (told_is n) [
    | inl small ↦ (let same : least ≡ rows_for n = is ∙ small.0 in omega (arith, within, same))
    | inr many ↦ absurd (let same : least ≡ 2 ^ 64 - 1 = is ∙ many.0 in omega (arith, within, same, low))
  ]),
  λ enough. le-leb least rows (elim (told_is n) [
    | inl small ↦ (let same : least ≡ rows_for n = is ∙ small.0 in omega (arith, enough, same))
    | inr many ↦ absurd (let more = many.1 in omega (arith, enough, more, low))
  ]),
)

pub no_room : (rows ranges gain : ℕ) → rows ≤ most_rows → 2 * most_rows < ranges → IsTrue false ↔ (rows_for (ranges + gain) ≤ rows)
no_room rows ranges gain low many = (λ fits. absurd (let clash : false ≡ true = fits in cc), λ enough. absurd (omega (arith, low, many, enough)))

-- ---- verdicts

pub counted_form : (kind : Kind) (t : Rooted) (form : Form) → form ≡ form_of (tree_as kind t) → form.ranges ≡ length (map_by t)
counted_form kind t form is = ap (λ (f : Form). f.ranges) is

module _ (t : Parts) (call : Call) (gain : ℕ) (is : IsGain t call gain) where
  adds_some : (gain ≡ 0 → ⊥) → range_count t < most_after t call
  adds_some some = elim (cases_lt (range_count t) (most_after t call)) [ inl adds ↦ adds | inr none ↦ absurd (some (omega (arith, is.0, none))) ]

  gained : range_count t < most_after t call → range_count t + gain ≡ most_after t call
  gained adds = omega (arith, is.0, adds)

-- a call that adds none breaks nothing
pub calm : (t : Parts) (call : Call) (before after : Option ℕ) → most_after t call ≤ range_count t → IfSome before (λ n. n ≡ range_count t) → IfSome after (λ n. n ≡ length (acted t.kind (map_by t.sheet.tree) call).0) → IsReserveVerdict t call (record { breaks = false; before = before; after = after })
calm t call before after none known then = record {
  breaks = (λ clash. absurd (let no : false ≡ true = clash in cc), λ breaks. absurd (let adds = breaks.adds in omega (arith, adds, none)));
  before = known;
  after = then;
}

pub roomy : (t : Parts) (call : Call) (gain : ℕ) (b : Bool) (ranges : ℕ) (after : Option ℕ) → IsGain t call gain → (gain ≡ 0 → ⊥) → IsTrue b ↔ (t.sheet.tree.rows < rows_for (range_count t + gain)) → ranges ≡ range_count t
    → IfSome after (λ n. n ≡ length (acted t.kind (map_by t.sheet.tree) call).0) → IsReserveVerdict t call (record { breaks = b; before = Some ranges; after = after })
roomy t call gain b ranges after is some lacks count then =
    let adds = adds_some t call gain is some in
    let most = gained t call gain is adds in
    record {
      breaks = (
        λ yes. record { adds = adds; few = subst (λ (n : ℕ). t.sheet.tree.rows < rows_for n) most (lacks.0 yes) },
        λ breaks. lacks.1 (subst (λ (n : ℕ). t.sheet.tree.rows < rows_for n) (sym most) breaks.few),
      );
      before = count;
      after = then;
    }

pub lacks_is : (b : Bool) (rows size ranges n gain : ℕ) → size ≡ rows → ranges ≡ n → IsTrue b ↔ (rows_for (ranges + gain) ≤ size) → IsTrue (not b) ↔ (rows < rows_for (n + gain))
lacks_is true rows size ranges n gain many count is = (
  λ clash. absurd (let no : false ≡ true = clash in cc),
  λ few. absurd (let enough = subst (λ (x : ℕ × ℕ). rows_for (x.0 + gain) ≤ x.1) (λ i. (count i, many i)) (is.0 refl) in omega (arith, few, enough)),
)
lacks_is false rows size ranges n gain many count is = (
  λ yes. elim (cases_lt rows (rows_for (n + gain))) [
    | inl few ↦ few
    | inr enough ↦ absurd (let no : false ≡ true = is.1 (subst (λ (x : ℕ × ℕ). rows_for (x.0 + gain) ≤ x.1) (λ i. (sym count i, sym many i)) enough) in cc)
  ],
  λ few. refl,
)

pub one_gain : (t : Parts) (call : Call) → most_after t call ≡ range_count t + 1 → IsGain t call 1
one_gain t call is = (omega (arith, is), omega arith)

pub never : (t : Parts) (call : Call) (known : Option ℕ) → most_after t call ≤ range_count t → IfSome known (λ n. n ≡ range_count t) → IsReserveVerdict t call (record { breaks = false; before = known; after = None })
never t call known none is = calm t call known None none is tt

erase_verdict : (t : Parts) (index : ℕ) (known : Option ℕ) → IfSome known (λ n. n ≡ range_count t) → IsReserveVerdict t (Erase index) (record { breaks = false; before = known; after = None })
erase_verdict t index known is = never t (Erase index) known (few_erased t.kind (map_by t.sheet.tree) index) is

-- calls that never add ranges
abbrev AddsNone : Call → Type 0
AddsNone call = ((x : ℕ) × (call ≡ Erase x)) ⊎ (((x : ℕ) × (y : ℕ) × (z : ℕ) × (call ≡ Gap x y z)) ⊎ (((x : ℕ) × (y : ℕ) × (z : ℕ) × (call ≡ Rgap x y z)) ⊎ (call ≡ Clear)))

pub none_verdict : (t : Parts) (call : Call) (known : Option ℕ) (v : ReserveVerdict) → AddsNone call → v ≡ record { breaks = false; before = known; after = None } → IfSome known (λ n. n ≡ range_count t) → IsReserveVerdict t call v
none_verdict t call known v adds so is = subst (IsReserveVerdict t call) (sym so) (by adds)
  where
    by : AddsNone call → IsReserveVerdict t call (record { breaks = false; before = known; after = None })
    by (inl e) = subst (λ (x : Call). IsReserveVerdict t x (record { breaks = false; before = known; after = None })) (sym e.1) (erase_verdict t e.0 known is)
    by (inr (inl e)) = subst (λ (x : Call). IsReserveVerdict t x (record { breaks = false; before = known; after = None })) (sym e.3) (never t (Gap e.0 e.1 e.2) known (omega arith) is)
    by (inr (inr (inl e))) = subst (λ (x : Call). IsReserveVerdict t x (record { breaks = false; before = known; after = None })) (sym e.3) (never t (Rgap e.0 e.1 e.2) known (omega arith) is)
    by (inr (inr (inr e))) = subst (λ (x : Call). IsReserveVerdict t x (record { breaks = false; before = known; after = None })) (sym e) (never t Clear known (omega arith) is)

pub pre_verdict : (t : Parts) (first last entry : ℕ) (v : ReserveVerdict) → IsReserveVerdict t (Store first last entry) v → IsReserveVerdict t (StorePre first last entry) v
pre_verdict t first last entry v is = record {
  breaks = (λ yes. let b = is.breaks.0 yes in record { adds = b.adds; few = b.few }, λ b. is.breaks.1 (record { adds = b.adds; few = b.few }));
  before = is.before;
  after = is.after;
}

pub invalid_verdict : (t : Parts) (first last entry : ℕ) (known : Option ℕ) → is_invalid t.kind first last entry ≡ true → IfSome known (λ n. n ≡ range_count t) → IsReserveVerdict t (Store first last entry) (record { breaks = false; before = known; after = None })
invalid_verdict t first last entry known invalid is = never t (Store first last entry) known (let same : most_after t (Store first last entry) ≡ range_count t = rw invalid refl in omega (arith, same)) is

stored_so : (kind : Kind) (m : List Range) (first last entry : ℕ) → is_invalid kind first last entry ≡ false → length (acted kind m (Store first last entry)).0 ≡ length (over m first last entry)
stored_so kind m first last entry valid = rw valid refl

pub valid_first : (kind : Kind) (first last entry : ℕ) → is_invalid kind first last entry ≡ false → first ≤ last
valid_first kind first last entry valid = valid_order kind first last entry valid

-- a store that is not invalid
store_changes : (t : Parts) (first last entry : ℕ) (c : Change) → is_invalid t.kind first last entry ≡ false → IsChange (map_by t.sheet.tree) first last entry c → TellsChange t (Store first last entry) c
store_changes t first last entry c valid is =
    let stored = stored_so t.kind (map_by t.sheet.tree) first last entry valid in
    record { gone = is.gone; kept = is.kept; most = refl; all = omega (arith, stored, is.all) }

module _ (t : Parts) (call : Call) (c : Change) (is : TellsChange t call c) where
  pub change_gain : (gain : ℕ) → gain ≡ c.kept - c.gone → IsGain t call gain
  change_gain gain so = (omega (arith, so, is.most, is.all), omega (arith, so, is.kept))

  pub change_calm : c.kept - c.gone ≡ 0 → most_after t call ≤ range_count t
  change_calm none = omega (arith, none, is.most, is.all)

  pub change_after : (ranges : ℕ) (after : Option ℕ) → ranges ≡ range_count t → IfSome after (λ n. n + c.gone ≡ ranges + c.kept) → IfSome after (λ n. n ≡ length (acted t.kind (map_by t.sheet.tree) call).0)
  change_after ranges None count told = tt
  change_after ranges (Some n) count told = omega (arith, told, count, is.all)

  pub change_known : (known after : Option ℕ) → IfSome known (λ n. n ≡ range_count t) → ((n : ℕ) → known ≡ Some n → IfSome after (λ k. k + c.gone ≡ n + c.kept)) → (known ≡ None → after ≡ None) → IfSome after (λ n. n ≡ length (acted t.kind (map_by t.sheet.tree) call).0)
  change_known None after count some none = subst (λ (o : Option ℕ). IfSome o (λ n. n ≡ length (acted t.kind (map_by t.sheet.tree) call).0)) (sym (none refl)) tt
  change_known (Some n) after count some none = change_after n after count (some n refl)

  pub change_gone : (known : Option ℕ) → IfSome known (λ n. n ≡ range_count t) → IfSome known (λ n. c.gone ≤ n)
  change_gone None count = tt
  change_gone (Some n) count = omega (arith, is.gone, count)

-- ---- of nodes that are the same

pub breaks_as : (t u : Parts) (call : Call) → t.kind ≡ u.kind → t.sheet.tree ≡ u.sheet.tree → BreaksReserve t call → BreaksReserve u call
breaks_as t u call kinds trees b = record {
  adds = subst (λ (x : Kind × Rooted). length (map_by x.1) < ranges_after x.0 (map_by x.1) call) (λ i. (kinds i, trees i)) b.adds;
  few = subst (λ (x : Kind × Rooted). x.1.rows < rows_for (ranges_after x.0 (map_by x.1) call)) (λ i. (kinds i, trees i)) b.few;
}

module _ (t u : Parts) (call : Call) (v : ReserveVerdict) (kinds : t.kind ≡ u.kind) (trees : t.sheet.tree ≡ u.sheet.tree) where
  pub verdict_as : IsReserveVerdict t call v → IsReserveVerdict u call v
  verdict_as is = record {
    breaks = (λ yes. breaks_as t u call kinds trees (is.breaks.0 yes), λ breaks. is.breaks.1 (breaks_as u t call (sym kinds) (sym trees) breaks));
    before = subst (λ (x : Rooted). IfSome v.before (λ n. n ≡ length (map_by x))) trees is.before;
    after = subst (λ (x : Kind × Rooted). IfSome v.after (λ n. n ≡ length (acted x.0 (map_by x.1) call).0)) (λ i. (kinds i, trees i)) is.after;
  }

-- what a store changes, by nodes that were read since
pub changes_read : (t u : Parts) (first last entry : ℕ) (c : Change) → u.sheet.tree ≡ t.sheet.tree → u.kind ≡ t.kind → is_invalid t.kind first last entry ≡ false → IsChange (map_by t.sheet.tree) first last entry c → TellsChange u (Store first last entry) c
changes_read t u first last entry c tree kind valid is =
    store_changes u first last entry c (subst (λ (k : Kind). is_invalid k first last entry ≡ false) (sym kind) valid) (subst (λ (x : Rooted). IsChange (map_by x) first last entry c) (sym tree) is)
