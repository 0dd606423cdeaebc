-- How the number of a tree's ranges is kept.
use Rattle.mt_c.proofs.Prelude.{◌≡◌, ◌∙◌, ℕ, ◌+◌, true, false, Option, IfSome, length, sym, ap, subst, inl, inr, Kind, Call, Reply, Book, IsAsked, IsLawfulOf, OnlyReads, Parts, RangeWalk, Rooted, Sheet, WalksFrom, map_by, acted, IsOwnTree, tree_if_lawful, tree_map, IsApplied, is_refusal, made_counts, IsCountAfter}
use Rattle.mt_c.specs.declared.own_tree.OwnTree.TheInside.{Inside}
use Rattle.mt_c.proofs.Walking.{alone_if_asked, alone_if_ended, ended_if_asked, walks_if_asked}

pub counted_if_read : (s s' : Sheet) (ranges : Option ℕ) → OnlyReads s s' → IfSome ranges (λ n. n ≡ length (map_by s.tree)) → IfSome ranges (λ n. n ≡ length (map_by s'.tree))
counted_if_read s s' ranges reads known = subst (λ (x : Sheet). IfSome ranges (λ n. n ≡ length (map_by x.tree))) (sym reads) known

pub counted_if_asked : (e e' : Parts) (ranges : Option ℕ) → IsAsked e e' → IfSome ranges (λ n. n ≡ length (map_by e.sheet.tree)) → IfSome ranges (λ n. n ≡ length (map_by e'.sheet.tree))
counted_if_asked e e' ranges asked known = counted_if_read e.sheet e'.sheet ranges asked.rest known

pub act_counts : (kind : Kind) (s s' : Sheet) (book book' : Book) (call : Call) (reply : Reply) (given before after : Option ℕ) → IsLawfulOf s.tree kind → IsApplied kind s s' book book' call reply
    → IfSome given (λ n. n ≡ length (acted kind (map_by s.tree) call).0) → IfSome before (λ n. n ≡ length (map_by s.tree)) → IsCountAfter given before call reply after → IfSome after (λ n. n ≡ length (map_by s'.tree))
act_counts kind s s' book book' call reply given before after lawful applied told known count =
    made_counts kind (map_by s.tree) (map_by s'.tree) call reply given before after (tree_map s.tree kind (tree_if_lawful s.tree kind lawful))
    (λ refused. elim applied.answer [ inl carried ↦ ap (λ (x : Rooted). map_by x) (carried.kept refused) | inr short ↦ ap (λ (x : Rooted). map_by x) short.1 ])
    (λ done. elim applied.answer [
      | inl carried ↦ carried.acts
      | inr short ↦ absurd (let refused : is_refusal reply ≡ true = ap is_refusal short.0.refused.told in let clash : true ≡ false = sym refused ∙ done in cc)
    ])
    told known count

-- A tree that is kept stays one where it is only read; so it does with the place of a walk that is one of it, and with the number
-- of its ranges.
pub own_if_asked : (t : Inside) (e' : Parts) → IsOwnTree t → IsAsked t.engine e' → IsOwnTree (record t { engine = e' })
own_if_asked t e' own asked = record {
  told = own.told ∙ sym asked.kind;
  counted = ended_if_asked t.engine e' t.calls asked own.counted;
  walks = walks_if_asked t.engine e' t.place asked own.walks;
  alone = alone_if_asked t.engine e' asked own.alone;
  ranges = counted_if_asked t.engine e' t.ranges asked own.ranges;
}

pub own_if_walked : (t : Inside) (e' : Parts) (place : RangeWalk) → IsOwnTree t → IsAsked t.engine e' → WalksFrom e'.sheet.tree place → IsOwnTree (record t { engine = e'; place = place })
own_if_walked t e' place own asked walks = let here = own_if_asked t e' own asked in record { told = here.told; counted = here.counted; walks = walks; alone = here.alone; ranges = here.ranges }

pub own_if_judged : (t : Inside) (e' : Parts) (ranges : Option ℕ) → IsOwnTree t → IsAsked t.engine e' → IfSome ranges (λ n. n ≡ length (map_by t.engine.sheet.tree)) → IsOwnTree (record t { engine = e'; ranges = ranges })
own_if_judged t e' ranges own asked count =
    let here = own_if_asked t e' own asked in
    record { told = here.told; counted = here.counted; walks = here.walks; alone = here.alone; ranges = counted_if_asked t.engine e' ranges asked count }

-- a tree that is kept stays one when a call is made
pub own_if_made : (t : Inside) (e' : Parts) (calls : ℕ) (place : RangeWalk) (call : Call) (reply : Reply) (given after : Option ℕ) → IsOwnTree t → IsLawfulOf t.engine.sheet.tree t.engine.kind
    → IsApplied t.engine.kind t.engine.sheet e'.sheet t.engine.book e'.book call reply → e'.kind ≡ t.engine.kind → calls ≡ t.calls + 1 → WalksFrom e'.sheet.tree place
    → IfSome given (λ n. n ≡ length (acted t.engine.kind (map_by t.engine.sheet.tree) call).0) → IsCountAfter given t.ranges call reply after
    → IsOwnTree (record { engine = e'; kind = t.kind; calls = calls; place = place; ranges = after })
own_if_made t e' calls place call reply given after own lawful applied kind more walks told count = record {
  told = own.told ∙ sym kind;
  counted = more ∙ (ap (λ (n : ℕ). n + 1) own.counted ∙ sym applied.ended.ended);
  walks = walks;
  alone = alone_if_ended t.engine.kind t.engine.sheet e'.sheet e'.book call reply applied.ended own.alone;
  ranges = act_counts t.engine.kind t.engine.sheet e'.sheet t.engine.book e'.book call reply given t.ranges after lawful applied told own.ranges count;
}
