-- The reserve of a tree of one thread is enough for each of its calls, and lasts where no call breaks it.
use Rattle.mt_c.proofs.Prelude.{◌≡◌, ◌∙◌, ◌⊎◌, ℕ, ◌≤◌, true, List, Option, Some, None, IfSome, length, sym, ap, subst, arith, inl, inr, Kind, Range, Call, Reply, IsLawfulOf, OwnTree, Parts, Rooted, Sheet, IsAsked, MadeOrSpent, map_by, pre_status, pre_word, acted, IsCallMade, tree_if_lawful, tree_map, IsApplied, IsCarriedOut, limits_of, few_acted, BreaksReserve, HasReserve, IsReserveVerdict, most_after, range_count}
use Rattle.mt_tree.specs.declared.reserve.ReserveVerdict.{ReserveVerdict}
use Rattle.mt_tree.proofs.Reserving.{kept_through, never_short}
use Rattle.mt_c.specs.Reserve.{KeepsCall, MadeInReserve}

-- ---- it is enough

-- a call of a tree that has it does what it says, as no other holds nodes back
pub did_in_reserve : (t t' : Parts) (call : Call) (reply : Reply) → HasReserve t → IsCallMade t t' call reply → IsCarriedOut t.kind t.sheet t'.sheet t.book t'.book call reply
did_in_reserve t t' call reply kept made = elim made.applied.answer [
  | inl carried ↦ carried
  | inr short ↦ absurd (let refused = short.0.refused in never_short (limits_of t.sheet) (map_by t.sheet.tree) refused.shortage kept refused.short (refused.short.unheld made.alone))
]

-- ---- it lasts

-- how many ranges a call left
few_left : (t t' : Parts) (call : Call) (reply : Reply) → IsLawfulOf t.sheet.tree t.kind → IsApplied t.kind t.sheet t'.sheet t.book t'.book call reply → (range_count t' ≤ most_after t call) ⊎ (range_count t' ≤ range_count t)
few_left t t' call reply lawful applied = elim applied.answer [
  | inl carried ↦ inl (
      let few = few_acted t.kind (map_by t.sheet.tree) (tree_map t.sheet.tree t.kind (tree_if_lawful t.sheet.tree t.kind lawful)) call in
      let all = ap (λ (x : List Range × Reply). length x.0) carried.acts in
      omega (arith, few, all))
  | inr short ↦ inr (let same = ap (λ (x : Rooted). length (map_by x)) short.1 in omega (arith, same))
]

pub reserve_lasts : (t t' : Parts) (call : Call) (reply : Reply) → IsLawfulOf t.sheet.tree t.kind → HasReserve t → (BreaksReserve t call → ⊥) → IsCallMade t t' call reply → HasReserve t'
reserve_lasts t t' call reply lawful kept not made =
    let left = few_left t t' call reply lawful made.applied in
    let rows : t'.sheet.tree.rows ≡ t.sheet.tree.rows = made.applied.ended.rows in
    let still = kept_through (range_count t) (most_after t call) (range_count t') t.sheet.tree.rows kept left (λ both. not (record { adds = both.0; few = both.1 })) in
    omega (arith, still, rows)

-- ---- calls that keep it

tree_asked : (a b : Parts) → IsAsked a b → b.sheet.tree ≡ a.sheet.tree
tree_asked a b asked = ap (λ (x : Sheet). x.tree) asked.rest

pub after_on : (a b : Parts) (call : Call) (after : Option ℕ) → IsAsked a b → IfSome after (λ n. n ≡ length (acted a.kind (map_by a.sheet.tree) call).0) → IfSome after (λ n. n ≡ length (acted b.kind (map_by b.sheet.tree) call).0)
after_on a b call after asked told = subst (λ (x : Kind × Rooted). IfSome after (λ n. n ≡ length (acted x.0 (map_by x.1) call).0)) (λ i. (sym asked.kind i, sym (tree_asked a b asked) i)) told

pub made_kept : (a b t' : Parts) (call : Call) (v : ReserveVerdict) (made : Option Reply) → IsReserveVerdict a call v → IsAsked a b → (v.breaks ≡ true → ⊥) → MadeOrSpent b t' call made → MadeInReserve a t' call (Some made)
made_kept a b t' call v made is asked not acts = ((λ breaks. not (is.breaks.1 breaks)), b, asked, acts)

pub not_made : (a b : Parts) (call : Call) (v : ReserveVerdict) → IsReserveVerdict a call v → IsAsked a b → v.breaks ≡ true → MadeInReserve a b call None
not_made a b call v is asked breaks = (is.breaks.0 breaks, asked)

-- ---- what C keeps

pub kept_open : (call : Call) (before after : Option OwnTree) (t t' : OwnTree) (made : Option (Option Reply)) (status word : ℕ) → before ≡ Some t → after ≡ Some t'
    → MadeInReserve t.engine t'.engine call made → status ≡ pre_status made → word ≡ pre_word made → KeepsCall call before after status word
kept_open call before after t t' made status word was is ok number tells =
    subst (λ (x : Option OwnTree × Option OwnTree). KeepsCall call x.0 x.1 status word) (λ i. (sym was i, sym is i)) (made, ok, number, tells)
