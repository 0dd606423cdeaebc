-- Many look-ups and many steps of a walk that C keeps.
use Rattle.mt_c.proofs.Prelude.{◌≡◌, ◌∙◌, ℕ, Option, Some, None, refl, sym, ap, subst, greatest, map_by, Parts, RangeWalk, OwnTree, IsAsked, walk_index, walk_start, last_index_of, walk_from, OutRange, OutWalk, many_status, range_out, PutSteps, entries_at, put_first, steps_by, List, length, take}
use Rattle.mt_c.specs.Many.{HasSteppedMany, LoadedMany, SteppedMany}

pub loaded_open : (indexes : List ℕ) (before after : Option OwnTree) (t t' : OwnTree) (status : ℕ) (out out' : List ℕ) → before ≡ Some t → after ≡ Some t' → IsAsked t.engine t'.engine → t'.place ≡ t.place → status ≡ 0
    → out' ≡ put_first (entries_at (map_by t.engine.sheet.tree) (take (length out) indexes)) out → LoadedMany indexes before after status out out'
loaded_open indexes before after t t' status out out' was is rest place number put =
    subst (λ (x : Option OwnTree × Option OwnTree). LoadedMany indexes x.0 x.1 status out out') (λ i. (sym was i, sym is i)) (rest, place, number, put)

pub loaded_closed : (indexes : List ℕ) (before after : Option OwnTree) (status : ℕ) (out out' : List ℕ) → before ≡ None → after ≡ None → status ≡ 9 → out' ≡ out → LoadedMany indexes before after status out out'
loaded_closed indexes before after status out out' was is number same =
    subst (λ (x : Option OwnTree × Option OwnTree). LoadedMany indexes x.0 x.1 status out out') (λ i. (sym was i, sym is i)) (refl, number, same)

-- what the engine tells of as many steps of a tree as there are places
abbrev StepsMany : OwnTree → Parts → RangeWalk → List OutRange → List OutRange → ℕ → Type 0
StepsMany m e' place' out out' count = IsAsked m.engine e' × PutSteps range_out (steps_by m.engine.sheet.tree (length out) m.place.next) out out' count place'.next

-- steps of a tree that stands at the index then, whose fields stand for `inside`
pub stepped_many : (inside m t : OwnTree) (e' : Parts) (place' : RangeWalk) (index : Option ℕ) (out out' : List OutRange) (count : ℕ) → inside ≡ m → m.engine ≡ t.engine → m.place.next ≡ walk_start (last_index_of t) index
    → IsAsked inside.engine e' → PutSteps range_out (steps_by inside.engine.sheet.tree (length out) inside.place.next) out out' count place'.next
    → HasSteppedMany t (record { engine = e'; place = place' }) index out out' count
stepped_many inside m t e' place' index out out' count is same start asked put =
    let of_m : StepsMany m e' place' out out' count = subst (λ (x : OwnTree). StepsMany x e' place' out out' count) is (asked, put) in
    let of_t : StepsMany (record { engine = t.engine; place = m.place }) e' place' out out' count =
    subst (λ (e : Parts). StepsMany (record { engine = e; place = m.place }) e' place' out out' count) same of_m in
    record {
      rest = of_t.0;
      put = subst (λ (o : Option ℕ). PutSteps range_out (steps_by t.engine.sheet.tree (length out) o) out out' count place'.next) start of_t.1;
    }

pub stepped_open : (walk walk' : OutWalk) (before after : Option OwnTree) (t t' : OwnTree) (index behind : Option ℕ) (status count : ℕ) (out out' : List OutRange) → before ≡ Some t → after ≡ Some t' → index ≡ walk_index walk
    → HasSteppedMany t t' index out out' count → behind ≡ t'.place.next → status ≡ many_status count behind → walk' ≡ walk_from behind → SteppedMany walk before after status out out' count walk'
stepped_open walk walk' before after t t' index behind status count out out' was is from steps ends number goes =
    let there : HasSteppedMany t t' (walk_index walk) out out' count = subst (λ (o : Option ℕ). HasSteppedMany t t' o out out' count) from steps in
    subst (λ (x : Option OwnTree × Option OwnTree). SteppedMany walk x.0 x.1 status out out' count walk') (λ i. (sym was i, sym is i))
    (there, number ∙ ap (many_status count) ends, goes ∙ ap walk_from ends)

pub stepped_closed : (walk walk' : OutWalk) (before after : Option OwnTree) (status count : ℕ) (out out' : List OutRange) → before ≡ None → after ≡ None → status ≡ 9 → out' ≡ out → count ≡ 0 → walk' ≡ walk
    → SteppedMany walk before after status out out' count walk'
stepped_closed walk walk' before after status count out out' was is number same none stays =
    subst (λ (x : Option OwnTree × Option OwnTree). SteppedMany walk x.0 x.1 status out out' count walk') (λ i. (sym was i, sym is i)) (refl, number, same, none, stays)
