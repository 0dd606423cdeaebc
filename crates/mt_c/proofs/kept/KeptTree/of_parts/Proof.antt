use Rattle.std.proofs.Common.{List, [], ◌∷◌, ◌++◌, refl, sym, subst, Some, ◌≡◌, Option}
use Rattle.mt_c.specs.Own.{OwnTree}
use Rattle.std.proofs.raw_atomic.Walks.{proved_at, leaves}
use base.Logic.{SProp, emp, ent, id⊢}
use base.Fml.{ftrue, fsep}
use mir.Val.{Val, vptr, vstruct, of_list}
use prog.Wp.{WpFn}
use contract.Monad.{fact, fact_i}
use contract.Running.{tables}
use types.Kit.{‵, raw, ◌⊛◌, ◌$◌, ◌∵◌, !, qed, by, move, drop, split, fsplit, fjoin, feq_i, fpack, use0, suffices}
use types.Run.{enter, of_opd, fld, stop, no_more, and_then, returns}
use types.ByLocal.{alloc_all, pass_all, free_all, look_at, get, get_in, sets}
use types.Part.{agg, sub, whole}
use denote.Exit.{yes}
use denote.Signature.{plain}
use denote.RattleType.{Valss}
use denote.Builtin.{RawPtr}
use denote.RawPtr.{block_ptr}
use denote.Struct.Struct.{within}
use denote.Struct.Owning.{shape}
use denote.Steps.{nothing}
use denote.Triple.Walked.{Stays, stay_dropped, Goes-dropped, walk_of}
use mir.Syntax.{impl, tnil, dnil}
use Rattle.std_alloc.proofs.BoxSteps.Form.{Bx, D, B, word, box_typed}
use Rattle.std_alloc.proofs.BoxSteps.Steps.{box_out}
use Rattle.std.specs.contracts.alloc.Global as heap
use Rattle.std.proofs.alloc.Global.TheLaws as heap_laws
use Rattle.std.specs.contracts.impls.GlobalAllocator.TheImpl.{ghosts, dict}
use Rattle.mt_c.specs.contracts.parts.Parts as parts
use Rattle.mt_c.specs.contracts.own_tree.OwnTree as words
use Rattle.mt_c.proofs.own_tree.OwnTree.TheLaws as words_laws
use Rattle.mt_c.specs.contracts.kept.KeptTree as own
use Rattle.mt_c.specs.contracts.kept.KeptTree.of_parts as f
use Rattle.mt_c.proofs.kept.KeptTree.of_parts.Statement.{statement}
use Rattle.mt_c.proofs.kept.KeptTree.of_parts.Code as code

abbrev E : Bx
E = record { row = words.the_row; laws = words_laws.the_row_laws; al = record { row = heap.the_row; laws = heap_laws.the_row_laws; g = ghosts; d = dict; drops = impl [] tnil dnil } }

abbrev stayed : Stays f.ended.signature.params f.ended.kept
stayed = (stay_dropped (plain (λ _. parts.the_row words.the_row heap.the_row ghosts)) yes, tt)

pub of_parts_spec : {M : Type 1} → statement M
of_parts_spec 𝓤 𝓛 𝓜 𝓡 wired =
    let c = f.clauses 𝓛 𝓜.mem 𝓡.returns in let H = 𝓛.H in let 𝓣 = tables 𝓤 H 𝓜 𝓡 𝓡.env in
    proved_at 𝓛 f.ended stayed c 𝓜 𝓡 (Goes-dropped 𝓛 0 (plain (λ _. parts.the_row words.the_row heap.the_row ghosts)) yes (λ κs x w. refl), tt) f.Key.name code.function (code.unfolded 𝓤 H 𝓜 𝓡 wired) (λ z are.
    let p = z.0.3.0 in let v : D E = record { ptr = p.ptr; alloc = p.alloc; value = p.value } in let Post : Val → SProp 𝓤 = (walk_of 𝓛 f.ended stayed c).post z in let Run : List Val → SProp 𝓤 = λ ws. WpFn 𝓤 H 𝓣.C 𝓣.Λ code.function ws Post in
    qed 𝓛 ((‵ ftrue ⊛ ‵ (fsep ((B E).own_val v z.0.4.0) ftrue)) ∷ raw (emp 𝓤) ∷ []) ∵ split ! $ drop ! $ fsplit ! $
    box_out E ! v z.0.4.0 (λ b o hv e ws fa.
    let w : Val = word E hv b o in let u : Val = vstruct (of_list (vptr b o ∷ [])) in let kept : Option OwnTree = Some p.value in
    move ! (2 ∷ []) $ drop ! $ move ! (2 ∷ []) $ drop ! $ move ! (2 ∷ []) $ drop ! $ fjoin ! $
    suffices ! (Run (w ∷ [])) (subst (λ (us : List Val). ent 𝓤 (Run (w ∷ [])) (Run us)) (sym (λ i. ws i ++ [])) (id⊢ 𝓤 (Run (w ∷ [])))) $
    enter ! 𝓣.C 𝓣.Λ code.function (w ∷ []) Post $ alloc_all ! (λ l. pass_all ! refl (box_typed E hv b o fa, tt) $
    sets ! (of_opd ! (get_in ! (fld ! refl (stop !)) (sub ! 0 refl (whole !)))) refl (tt, tt) $ sets ! (of_opd ! (get ! refl)) refl (tt, tt) $
    sets ! (agg ! (and_then ! (get ! refl) (no_more !))) refl (tt, (tt, tt)) $ returns ! (look_at ! 0 refl) $ free_all ! refl $
    use0 𝓛 (raw (fact 𝓤 (kept ≡ kept))) (fact_i 𝓤 (kept ≡ kept) (emp 𝓤) refl) $ move ! (1 ∷ 0 ∷ []) $
    nothing ! $ feq_i ! (List Val) (vptr b o ∷ []) (vptr b o ∷ []) refl $ fjoin ! $ feq_i ! (List Val) (u ∷ []) (u ∷ []) refl $ fjoin ! $
    fpack ! (Valss (RawPtr ∷ [])) (within (shape own.the_type) (block_ptr b o, tt) (u ∷ [])) (vptr b o ∷ [], tt) $ fjoin ! $
    nothing ! $ nothing ! $ fjoin ! $ nothing ! $ by ! (leaves 𝓛 f.ended stayed c z u (record { at = block_ptr b o; value = kept }) (tt, tt) (tt, tt)))))
