use Rattle.mt_verify.proofs.Prelude.{◌≡◌, ◌+◌, ℕ, true, false, Bor, List, [], ◌∷◌, Option, Some, length, slice_get, refl, sym, ap, ◌∙◌, subst, arith, ◌==◌, IfSome, eqb-true, true≢false, slice_get-get_or, Declared, HaveGoneTo, GoneTree}
use Rattle.mt_verify.proofs.GoingOn.{nothing_behind, starts}
use Rattle.mt_verify.proofs.verifying.go_all.Goals as goal

some_left : (xs : List ℕ) → false ≡ (length xs == 0) → xs ≡ [] → ⊥
some_left xs some none = absurd (true≢false (sym (some ∙ ap (λ (l : List ℕ). length l == 0) none)))

none_left : (xs : List ℕ) → true ≡ (length xs == 0) → xs ≡ []
none_left [] none = refl
none_left (x ∷ xs) none = let zero : length (x ∷ xs) ≡ 0 = eqb-true (length (x ∷ xs)) 0 (sym none) in absurd (omega (arith, zero))

pub loop-declared-init : goal.loop-declared-init
loop-declared-init c =
    subst (λ (l : List GoneTree). (length l ≡ 0) × HaveGoneTo c.args.log.now c.args.rows c.args.account.now.told.items c.args.account.now.rest.now l c.args.account.now.rest.now) (sym c.new-gone.ensures.items)
    (refl, starts c.args.log.now c.args.rows c.args.account.now.told.items c.args.account.now.rest.now)

pub next_tree-requires-clause-gone : goal.next_tree-requires-clause-gone
next_tree-requires-clause-gone c = c.loop-declared.invariant.1

pub next_tree-requires-clause-next : goal.next_tree-requires-clause-next
next_tree-requires-clause-next c =
    ap (λ (l : List Declared). slice_get l (length c.loop-declared.gone.items)) (sym c.requires.trees) ∙ (ap (slice_get c.args.trees.now) c.loop-declared.invariant.0
    ∙ (slice_get-get_or c.args.trees.now c.loop-declared.declared-index c.declared-item.result c.loop-declared-test.true ∙ ap Some (sym c.declared-item.is)))

pub loop-declared-preserved : goal.loop-declared-preserved
loop-declared-preserved c =
    let count : length c.next_tree.new.gone.items ≡ length c.loop-declared.gone.items + 1 =
    subst (λ (o : Option (Bor (List ℕ))). IfSome o (λ left. length c.next_tree.new.gone.items ≡ length c.loop-declared.gone.items + 1)) c.in-Some.is c.in_ok-left.ensures.count in (
      omega (arith, count, c.loop-declared.invariant.0),
      subst (λ (o : Option (Bor (List ℕ))). IfSome o (λ left. HaveGoneTo c.args.log.now c.args.rows c.args.account.now.told.items c.args.account.now.rest.now c.next_tree.new.gone.items left.now)) c.in-Some.is c.in_ok-left.ensures.some,
    )

pub returns-then-not-is_empty-clause-none : goal.returns-then-not-is_empty-clause-none
returns-then-not-is_empty-clause-none c =
    let all : length c.loop-declared.gone.items ≡ length c.args.trees.now = omega (arith, c.loop-declared.invariant.0, c.loop-declared-test.false, c.loop-declared.auto.declared-index-end) in
    nothing_behind c.args.log.now c.args.rows c.args.account.now.told.items c.args.account.now.rest.now c.loop-declared.gone.items c.loop-declared.rest.now c.requires.case c.loop-declared.invariant.1 (all ∙ ap length c.requires.trees) (some_left c.loop-declared.rest.now c.if-not-is_empty.ensures)

pub returns-clause-count : goal.returns-clause-count
returns-clause-count c = omega (arith, c.loop-declared.invariant.0, c.loop-declared-test.false, c.loop-declared.auto.declared-index-end)

pub returns-clause-some : goal.returns-clause-some
returns-clause-some c =
    let none : c.loop-declared.rest.now ≡ [] = none_left c.loop-declared.rest.now c.if-not-is_empty.ensures in
    subst (HaveGoneTo c.args.log.now c.args.rows c.args.account.now.told.items c.args.account.now.rest.now c.loop-declared.gone.items) none c.loop-declared.invariant.1
