use Rattle.std.proofs.Common.{List, [], ◌∷◌, ◌++◌, refl, sym, subst, Some, None, ◌≡◌, Option}
use Rattle.std.proofs.raw_atomic.Walks.{proved_at, leaves}
use base.Logic.{SProp, emp, ent, id⊢, never, fst∗}
use base.Fml.{ftrue}
use mir.Val.{Val, vptr, vstruct, of_list}
use mir.Raw.{raw as bare}
use mir.Syntax.{impl, tnil, dnil}
use prog.Wp.{WpFn}
use types.Logic.{sem}
use contract.Monad.{fact, fact_i}
use contract.Running.{tables}
use types.Kit.{‵, raw, ◌⊛◌, ◌$◌, ◌∵◌, !, qed, by, move, drop, split, fsplit, fjoin, fpick, feq_l, use0, use1, rewrite, suffices}
use types.Run.{enter, of_opd, fld, stop, no_more, and_then, returns}
use types.ByLocal.{alloc_all, pass_all, free_all, look_at, get, get_in, sets}
use types.Part.{agg, sub, whole}
use denote.Exit.{yes}
use denote.Signature.{types_at, type_at, plain}
use denote.RattleType.{owns}
use denote.RawPtr.{Ptr, null_ptr, ptr_val, in_a_block}
use denote.Memory.{lone}
use denote.Steps.{nothing, heard}
use denote.Triple.Walked.{Stays, stay_dropped, Goes-dropped, walk_of}
use Rattle.std.proofs.alloc.Calls.{handle_tells}
use Rattle.std_alloc.specs.Box.Ownership.{box_owns}
use Rattle.std_alloc.proofs.BoxSteps.Form.{Bx, D, word, box_typed}
use Rattle.std_alloc.proofs.BoxSteps.Steps.{box_in}
use Rattle.std.specs.contracts.alloc.Global as heap
use Rattle.std.proofs.alloc.Global.TheLaws as heap_laws
use Rattle.std.specs.contracts.impls.GlobalAllocator.TheImpl.{ghosts, dict}
use Rattle.mt_c.specs.Owned.{kept_owns, IsOpenHandle, to_free}
use Rattle.mt_c.specs.Own.{OwnTree}
use Rattle.mt_c.specs.contracts.own_tree.OwnTree as words
use Rattle.mt_c.proofs.own_tree.OwnTree.TheLaws as words_laws
use Rattle.mt_c.specs.contracts.kept.KeptTree as own
use Rattle.mt_c.specs.contracts.kept.KeptTree.into_parts as f
use Rattle.mt_c.proofs.kept.KeptTree.into_parts.Statement.{statement}
use Rattle.mt_c.proofs.kept.KeptTree.into_parts.Code as code

abbrev E : Bx
E = record { row = words.the_row; laws = words_laws.the_row_laws; al = record { row = heap.the_row; laws = heap_laws.the_row_laws; g = ghosts; d = dict; drops = impl [] tnil dnil } }

abbrev stayed : Stays f.ended.signature.params f.ended.kept
stayed = (stay_dropped (plain (λ _. own.the_row)) yes, (stay_dropped (plain (λ _. heap.the_row)) yes, tt))

got : (v : Option OwnTree) → IsOpenHandle v → (x : OwnTree) × (v ≡ Some x)
got None s = absurd s
got (Some x) s = (x, refl)

pub into_parts_spec : {M : Type 1} → statement M
into_parts_spec 𝓤 𝓛 𝓜 𝓡 wired =
    let c = f.clauses 𝓛 𝓜.mem 𝓡.returns in let H = 𝓛.H in let 𝓣 = tables 𝓤 H 𝓜 𝓡 𝓡.env in
    proved_at 𝓛 f.ended stayed c 𝓜 𝓡 (Goes-dropped 𝓛 0 (plain (λ _. own.the_row)) yes (λ κs x w. refl), (Goes-dropped 𝓛 0 (plain (λ _. heap.the_row)) yes (λ κs x w. refl), tt)) f.Key.name code.function (code.unfolded 𝓤 H 𝓜 𝓡 wired) (λ z are.
    let κs = z.0.0 in let h = z.0.3.0 in let a = z.0.3.1.0 in let vs = z.0.4.0 in
    let Post : Val → SProp 𝓤 = (walk_of 𝓛 f.ended stayed c).post z in let Run : List Val → SProp 𝓤 = λ ws. WpFn 𝓤 H 𝓣.C 𝓣.Λ code.function ws Post in
    qed 𝓛 ((‵ ftrue ⊛ ‵ (owns (types_at f.ended.signature.params κs) z.0.3 z.0.4)) ∷ raw (fact 𝓤 (IsOpenHandle h.value)) ∷ []) ∵ split ! $ drop ! $ move ! (1 ∷ []) $
    heard ! (IsOpenHandle h.value) (λ live. let x : OwnTree = (got h.value live).0 in let same : h.value ≡ Some x = (got h.value live).1 in let v : D E = record { ptr = h.at; alloc = a; value = x } in
    fsplit ! $ fsplit ! $ fpick ! (λ vss. fsplit ! $ feq_l ! (λ ev. fsplit ! $ feq_l ! (λ ep. drop ! $
    rewrite ! 0 (λ (y : Option OwnTree). ‵ (kept_owns words.the_row h.at y)) same refl $
    in_a_block ! h.at (λ p. box_owns to_free words.the_row p x) (fst∗ 𝓤 (never 𝓤) (sem 𝓛 (to_free (bare (lone words.the_row.mir)) null_ptr))) (λ b o e.
    let u : Val = vstruct (of_list (vptr b o ∷ [])) in
    let is : vs ≡ u ∷ [] = subst (λ (p : Ptr). vs ≡ vstruct (of_list (ptr_val p ∷ [])) ∷ []) e (subst (λ (ps : List Val). vs ≡ vstruct (of_list (ps ++ [])) ∷ []) ep ev) in
    fsplit ! $ move ! (2 ∷ []) $ fsplit ! $ handle_tells E.al ! a z.0.4.1.0 (λ hv ea fits. move ! (1 ∷ []) $ drop ! $ move ! (1 ∷ 2 ∷ []) $
    box_in E ! v b o x e refl $ let To = type_at f.ended.signature.result κs in let w : Val = word E hv b o in let made : To.Denot = record { ptr = h.at; alloc = a; value = x } in
    use1 𝓛 (‵ (To.own_val made (w ∷ []))) (id⊢ 𝓤 _) $
    suffices ! (Run (u ∷ hv ∷ [])) (subst (λ (us : List Val). ent 𝓤 (Run (u ∷ hv ∷ [])) (Run (us ++ (z.0.4.1.0 ++ [])))) (sym is) (subst (λ (us : List Val). ent 𝓤 (Run (u ∷ hv ∷ [])) (Run ((u ∷ []) ++ (us ++ [])))) (sym ea) (id⊢ 𝓤 (Run (u ∷ hv ∷ []))))) $
    enter ! 𝓣.C 𝓣.Λ code.function (u ∷ hv ∷ []) Post $ alloc_all ! (λ l. pass_all ! refl ((tt, (tt, tt)), (fits, tt)) $
    sets ! (of_opd ! (get_in ! (fld ! refl (stop !)) (sub ! 0 refl (whole !)))) refl (tt, tt) $
    sets ! (of_opd ! (get ! refl)) refl (tt, tt) $ sets ! (agg ! (and_then ! (get ! refl) (and_then ! (get ! refl) (no_more !)))) refl (box_typed E hv b o fits) $
    returns ! (look_at ! 0 refl) $ free_all ! refl $
    use0 𝓛 (raw (fact 𝓤 (h.value ≡ Some x))) (fact_i 𝓤 (h.value ≡ Some x) (emp 𝓤) same) $ move ! (1 ∷ 0 ∷ []) $
    nothing ! $ nothing ! $ fjoin ! $ nothing ! $ fjoin ! $ nothing ! $ by ! (leaves 𝓛 f.ended stayed c z w made (tt, (tt, tt)) (tt, (tt, tt)))))))))))
