-- In a log that can be read a copy is of a tree that is declared before it.
use Rattle.mt_verify.proofs.Prelude.{[], ◌≡◌, ℕ, zero, suc, ◌+◌, ◌<◌, List, ◌∷◌, ◌++◌, Option, Some, length, map, slice_get, refl, sym, ap, ◌∙◌, subst, inl, inr, arith, ◌⊎◌, option_to_list, append-nil, length_push, length-map, same_Some, Item, Tree, Join, Dup, Check, Write, Ask, Scan, Line, phase_after, Declared, Empty, CopyOf, IsReadable, NamesBelow, AreNamedFrom, count_after, declared_by, renamed, trees_from, trees_of, CopiesEarlier, KnownTree}
use Rattle.mt_log.specs.declared.lines.Item.TheVariants.{Lane}
use Rattle.mt_verify.proofs.Runs.{some_at}

-- what stands in a list with one more behind it
pub split_get : {X : Type 0} (xs : List X) (y : X) (i : ℕ) (e : X) → slice_get (xs ++ y ∷ []) i ≡ Some e → (slice_get xs i ≡ Some e) ⊎ ((i ≡ length xs) × (e ≡ y))
split_get [] y zero e is = inr (refl, sym (same_Some y e is))
split_get [] y (suc i) e is = absurd (cc)
split_get (x ∷ xs) y zero e is = inl is
split_get (x ∷ xs) y (suc i) e is = elim (split_get xs y i e is) [ inl old ↦ inl old | inr new ↦ inr (ap suc new.0, new.1) ]

-- ---- what holds of the trees behind each line

-- a tree that a log may declare behind these: a copy is of one of them, and of its kind
pub record IsDeclarable (trees : List Declared) (d : Declared) : Type 0 where
  pub earlier : (source phase : ℕ) → d.opening ≡ CopyOf source phase → source < length trees
  pub kind : (source phase : ℕ) (e : Declared) → d.opening ≡ CopyOf source phase → slice_get trees source ≡ Some e → d.tree.kind ≡ e.tree.kind

mapped : (trees : List Declared) (i : ℕ) (t : KnownTree) (d : Declared) → slice_get (map (λ (x : Declared). x.tree) trees) i ≡ Some t → slice_get trees i ≡ Some d → t ≡ d.tree
mapped [] i t d is at = absurd (cc)
mapped (x ∷ trees) zero t d is at = sym (same_Some x.tree t is) ∙ ap (λ (y : Declared). y.tree) (same_Some x d at)
mapped (x ∷ trees) (suc i) t d is at = mapped trees i t d is at

-- what no tree lacks that may be declared holds of all trees of a log that can be read, if it holds of none
module _ (Holds : List Declared → Type 0) (push : (trees : List Declared) (d : Declared) → Holds trees → IsDeclarable trees d → Holds (trees ++ d ∷ [])) where
  -- the trees behind a line, and how many they are
  abbrev IsNext : ℕ → List Declared → Type 0
  IsNext after trees = Holds trees × (length trees ≡ after)

  no_tree : (trees : List Declared) → Holds trees → IsNext (length trees) (trees ++ [])
  no_tree trees holds = subst (IsNext (length trees)) (sym (append-nil trees)) (holds, refl)

  one_tree : (trees : List Declared) (o : Option Declared) (d : Declared) → Holds trees → o ≡ Some d → IsDeclarable trees d → IsNext (length trees + 1) (trees ++ option_to_list o)
  one_tree trees o d holds is may = subst (λ (x : Option Declared). IsNext (length trees + 1) (trees ++ option_to_list x)) (sym is) (push trees d holds may, length_push trees d)

  behind : (trees : List Declared) (phase : ℕ) (item : Item) → NamesBelow (length trees) item → Holds trees → IsNext (count_after (length trees) item) (trees ++ option_to_list (declared_by trees phase item))
  behind trees phase (Tree name kind) below holds =
      one_tree trees (declared_by trees phase (Tree name kind)) (record { tree = record { name = name; kind = kind }; opening = Empty }) holds refl
      (record { earlier = λ source q copy. absurd (cc); kind = λ source q e copy at. absurd (cc) })
  behind trees phase (Dup from name) below holds =
      let t = some_at (map (λ (d : Declared). d.tree) trees) from (omega (arith, below, length-map trees (λ (d : Declared). d.tree))) in
      one_tree trees (declared_by trees phase (Dup from name)) (record { tree = renamed name t.0; opening = CopyOf from phase }) holds (rw t.1 refl)
      (record {
        earlier = λ source q copy. let same : from ≡ source = cc in omega (arith, same, below);
        kind = λ source q e copy at. let same : from ≡ source = cc in ap (λ (k : KnownTree). k.kind) (mapped trees from t.0 e t.1 (ap (slice_get trees) same ∙ at));
      })
  behind trees phase (Lane lane) below holds = no_tree trees holds
  behind trees phase Join below holds = no_tree trees holds
  behind trees phase (Check tree) below holds = no_tree trees holds
  behind trees phase (Write tree call) below holds = no_tree trees holds
  behind trees phase (Ask tree query) below holds = no_tree trees holds
  behind trees phase (Scan tree index max count) below holds = no_tree trees holds

  holds_from : (trees : List Declared) (phase : ℕ) (lines : List Line) → AreNamedFrom (length trees) lines → Holds trees → Holds (trees_from trees phase lines)
  holds_from trees phase [] named holds = holds
  holds_from trees phase (line ∷ lines) named holds =
      let next = behind trees phase line.item named.0 holds in
      holds_from (trees ++ option_to_list (declared_by trees phase line.item)) (phase_after phase line.item) lines (subst (λ (n : ℕ). AreNamedFrom n lines) (sym next.1) named.1) next.0

  pub holds_of_all : (lines : List Line) → IsReadable lines → Holds [] → Holds (trees_of lines)
  holds_of_all lines is none = holds_from [] 0 lines is.named none

-- ---- copies are of earlier trees

copies_push : (trees : List Declared) (d : Declared) → CopiesEarlier trees → IsDeclarable trees d → CopiesEarlier (trees ++ d ∷ [])
copies_push trees d earlier may tree source phase e is copy = elim (split_get trees d tree e is) [
  | inl old ↦ earlier tree source phase e old copy
  | inr last ↦ omega (arith, last.0, may.earlier source phase (ap (λ (x : Declared). x.opening) (sym last.1) ∙ copy))
]

pub copies_are_earlier : (lines : List Line) → IsReadable lines → CopiesEarlier (trees_of lines)
copies_are_earlier lines is = holds_of_all CopiesEarlier copies_push lines is (λ tree source phase d at copy. absurd (cc))
