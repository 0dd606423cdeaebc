-- The trees of a log that were gone through, one after another.
-- Source: this project's own.
use Rattle.std.specs.Prelude.{◌≡◌, ℕ, List, [], ◌∷◌, ◌++◌, Some, length, slice_get, flat_map}
use Rattle.mt_verify.specs.Prelude.{History, IsMap, Log, Listing, Transcript, IsRunBy, Step, listing_text, Declared, Opening, Empty, CopyOf, trees_of, ToldLine, AreTold}
use Rattle.mt_verify.specs.ToldReads.{calls_of_phases_before}
use Rattle.mt_verify.specs.GoneTrees.{GoneTree, HasGone, gone_map}

-- how a tree opens: empty, or with the map of another tree after its calls of earlier phases
abbrev pub OpensGone : List ToldLine → List GoneTree → Opening → GoneTree → Type 0
OpensGone told gone Empty g = g.opening ≡ []
OpensGone told gone (CopyOf tree phase) g = (source : GoneTree) × (slice_get gone tree ≡ Some source) × (g.kind ≡ source.kind) × (g.opening ≡ gone_map source (calls_of_phases_before told tree phase))

-- it is a tree that is declared so
pub record IsGoneTree (version rows : ℕ) (told : List ToldLine) (gone : List GoneTree) (tree : ℕ) (d : Declared) (g : GoneTree) : Type 0 where
  pub kind : g.kind ≡ d.tree.kind
  pub opening : OpensGone told gone d.opening g
  pub has : HasGone version rows told tree g

-- a tree at the end
abbrev pub listing_by : Declared → GoneTree → Listing
listing_by d g = record { name = d.tree.name; kind = d.tree.kind; ranges = gone_map g (length g.noted) }

abbrev pub listings_by : List Declared → List GoneTree → List Listing
listings_by [] gone = []
listings_by (d ∷ declared) [] = []
listings_by (d ∷ declared) (g ∷ gone) = listing_by d g ∷ listings_by declared gone

-- The first trees of a log were gone through, and the text after the steps begins with their listings.
pub record HaveGoneTo (log : Log) (rows : ℕ) (told : List ToldLine) (behind : List ℕ) (gone : List GoneTree) (rest : List ℕ) : Type 0 where
  pub each : (tree : ℕ) (d : Declared) (g : GoneTree) → slice_get (trees_of log.lines) tree ≡ Some d → slice_get gone tree ≡ Some g → IsGoneTree log.version rows told gone tree d g
  pub listed : behind ≡ flat_map listing_text (listings_by (trees_of log.lines) gone) ++ rest
  pub maps : (tree : ℕ) (g : GoneTree) → slice_get gone tree ≡ Some g → IsMap g.kind g.opening

-- a run with these lines, and with the text after them as its listings
pub record IsToldRun (log : Log) (rows : ℕ) (told : List ToldLine) (behind : List ℕ) (t : Transcript) (steps : List Step) (trees : List History) : Type 0 where
  pub run : IsRunBy log rows t steps trees
  pub are : AreTold log.version told steps
  pub lists : behind ≡ flat_map listing_text t.lists

-- no run has these lines
abbrev pub NoneIsTold : Log → ℕ → List ToldLine → List ℕ → Type 0
NoneIsTold log rows told behind = (t : Transcript) (steps : List Step) (trees : List History) → IsToldRun log rows told behind t steps trees → ⊥
