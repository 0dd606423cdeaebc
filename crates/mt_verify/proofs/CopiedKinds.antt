-- In a log that can be read a copy is of its source's kind.
use Rattle.mt_verify.proofs.Prelude.{[], ◌≡◌, ℕ, zero, suc, ◌+◌, List, ◌∷◌, ◌++◌, Some, slice_get, sym, ap, ◌∙◌, inl, inr, Line, Declared, CopyOf, IsReadable, trees_of}
use Rattle.mt_verify.proofs.CopiedTrees.{IsDeclarable, holds_of_all, split_get}
use Rattle.mt_verify.proofs.Runs.{some_at}

-- the source of a copy is declared, and of the same kind
pub record HasSource (declared : List Declared) (source : ℕ) (d : Declared) : Type 0 where
  pub tree : Declared
  pub is : slice_get declared source ≡ Some tree
  pub kind : d.tree.kind ≡ tree.tree.kind

abbrev pub CopiesAlike : List Declared → Type 0
CopiesAlike declared = (tree source phase : ℕ) (d : Declared) → slice_get declared tree ≡ Some d → d.opening ≡ CopyOf source phase → HasSource declared source d

pub still_there : {X : Type 0} (xs ys : List X) (i : ℕ) (x : X) → slice_get xs i ≡ Some x → slice_get (xs ++ ys) i ≡ Some x
still_there [] ys i x is = absurd (cc)
still_there (z ∷ xs) ys zero x is = is
still_there (z ∷ xs) ys (suc i) x is = still_there xs ys i x is

still_has : (trees more : List Declared) (source : ℕ) (d : Declared) → HasSource trees source d → HasSource (trees ++ more) source d
still_has trees more source d has = record { tree = has.tree; is = still_there trees more source has.tree has.is; kind = has.kind }

alike_push : (trees : List Declared) (d : Declared) → CopiesAlike trees → IsDeclarable trees d → CopiesAlike (trees ++ d ∷ [])
alike_push trees d alike may tree source phase e is copy = elim (split_get trees d tree e is) [
  | inl old ↦ still_has trees (d ∷ []) source e (alike tree source phase e old copy)
  | inr last ↦
      let of : d.opening ≡ CopyOf source phase = ap (λ (x : Declared). x.opening) (sym last.1) ∙ copy in
      let s = some_at trees source (may.earlier source phase of) in
      still_has trees (d ∷ []) source e (record { tree = s.0; is = s.1; kind = ap (λ (x : Declared). x.tree.kind) last.1 ∙ may.kind source phase s.0 of s.1 })
]

pub copies_are_alike : (lines : List Line) → IsReadable lines → CopiesAlike (trees_of lines)
copies_are_alike lines is = holds_of_all CopiesAlike alike_push lines is (λ tree source phase d at copy. absurd (cc))
