use Rattle.std.proofs.Common.{List, [], ◌∷◌, refl, lit<, w64, None, ◌≡◌, Option}
use Rattle.std.proofs.raw_atomic.Walks.{proved, leaves}
use contract.Monad.{fact, fact_i}
use base.Logic.{emp}
use Rattle.mt_c.specs.Own.{OwnTree}
use base.Fml.{ftrue}
use mir.Val.{Val, vint, vstruct, of_list}
use denote.RattleType.{Valss}
use denote.Builtin.{RawPtr}
use denote.RawPtr.{null_ptr}
use denote.Struct.Struct.{within}
use denote.Struct.Owning.{shape}
use Rattle.mt_c.specs.contracts.kept.KeptTree as own
use contract.Running.{tables}
use types.Kit.{‵, raw, ◌⊛◌, ◌$◌, ◌∵◌, !, qed, drop, fjoin, feq_i, fpack, use0, by}
use types.Run.{enter, lit, no_more, and_then, returns}
use types.ByLocal.{alloc_all, pass_all, free_all, look_at, sets}
use types.Part.{agg}
use denote.Triple.Walked.{Stays, walk_of}
use denote.Steps.{nothing}
use Rattle.mt_c.specs.contracts.kept.KeptTree.closed as f
use Rattle.mt_c.proofs.kept.KeptTree.closed.Statement.{statement}
use Rattle.mt_c.proofs.kept.KeptTree.closed.Code as code

abbrev stayed : Stays f.ended.signature.params f.ended.kept
stayed = tt

pub closed_spec : {M : Type 1} → statement M
closed_spec 𝓤 𝓛 𝓜 𝓡 wired =
    let c = f.clauses 𝓛 𝓜.mem 𝓡.returns in let W = walk_of 𝓛 f.ended stayed c in let 𝓣 = tables 𝓤 𝓛.H 𝓜 𝓡 𝓡.env in
    proved 𝓛 f.ended stayed c 𝓜 𝓡 tt f.Key.name code.function (code.unfolded 𝓤 𝓛.H 𝓜 𝓡 wired) (λ κs. tt) (λ κs. tt) (λ κs qs bounds a g are.
    let y : W.Ghost = ((κs, qs, bounds, a, tt), tt) in
    qed 𝓛 ((‵ ftrue ⊛ ‵ ftrue) ∷ ‵ ftrue ∷ []) ∵ drop ! $ drop ! $
    enter ! _ _ _ _ _ $ alloc_all ! (λ l. pass_all ! refl tt $
    sets ! (agg ! (and_then ! (lit ! tt) (no_more !))) refl (tt, (record { fits = lit< tt }, tt)) $
    returns ! (look_at ! 0 refl) $ free_all ! refl $
    let v : Val = vstruct (of_list (vint w64 0 ∷ [])) in
    let none : Option OwnTree = None in use0 𝓛 (raw (fact 𝓤 (none ≡ none))) (fact_i 𝓤 (none ≡ none) (emp 𝓤) refl) $
    nothing ! $ nothing ! $ feq_i ! (List Val) (vint w64 0 ∷ []) (vint w64 0 ∷ []) refl $ fjoin ! $ feq_i ! (List Val) (v ∷ []) (v ∷ []) refl $ fjoin ! $
    fpack ! (Valss (RawPtr ∷ [])) (within (shape own.the_type) (null_ptr, tt) (v ∷ [])) (vint w64 0 ∷ [], tt) $ fjoin ! $
    nothing ! $ nothing ! $ by ! (leaves 𝓛 f.ended stayed c y v (record { at = null_ptr; value = None }) tt tt)))
