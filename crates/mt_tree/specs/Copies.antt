-- What can be known of the words of a tree without seeing them: their form, and how many nodes they have.
-- Source: this project's own.
use Rattle.std.specs.Prelude.{◌≡◌, ◌≢◌, ℕ, ◌+◌, ◌/◌, ◌<◌, ◌≤◌, List, Option, Some, None, Result, Ok, Err, IsOk, length}
use Rattle.mt_tree.specs.Prelude.{Kind, Range, Form, IsIdle, Book, form_of, tree_as, IsLawfulOf, map_by, Rooted, Sheet, reached_in, IsImageOf}
use Rattle.mt_tree.specs.declared.shapes.Shape.{Shape}
use Rattle.mt_tree.specs.Shapes.{first_bad}
use Rattle.mt_tree.specs.declared.shapes.DupError.{DupError}
use Rattle.mt_tree.specs.declared.shapes.DupError.TheVariants as errors

-- Well-formed words of a tree of this many nodes, which represent this map.
pub record AreWordsOf (kind : Kind) (rows : ℕ) (m : List Range) (words : Rooted) : Type 0 where
  pub lawful : IsLawfulOf words kind
  pub many : words.rows ≡ rows
  pub map : map_by words ≡ m

-- how many nodes are in use in these words
abbrev pub live_rows : Rooted → ℕ
live_rows words = length (reached_in words.table words.root)

-- The form is that of such words.
pub record IsFormOf (kind : Kind) (rows : ℕ) (m : List Range) (form : Form) : Type 0 where
  pub words : Rooted
  pub of : AreWordsOf kind rows m words
  pub form_is : form ≡ form_of (tree_as kind words)
  pub ranges : form.ranges ≡ length m

-- The bytes are the image of such words.
pub record IsImageIn (kind : Kind) (rows : ℕ) (m : List Range) (bytes : List ℕ) : Type 0 where
  pub words : Rooted
  pub of : AreWordsOf kind rows m words
  pub image : IsImageOf kind words bytes

-- A copy was made only if the wanted number of nodes is enough for those in use. It was refused because nodes are short only if
-- it is not, and the error then has both numbers.
pub record IsLiveCounted {X : Type 0} (live wanted : ℕ) (made : Result X DupError) : Type 0 where
  pub enough : IsOk made → live ≤ wanted
  pub few : (told counted : ℕ) → made ≡ Err (errors.NoNodes told counted) → (told ≡ wanted) × (counted ≡ live) × (wanted < live)

-- a refusal for lack of nodes
abbrev pub IsForNodes : DupError → Type 0
IsForNodes (errors.NoNodes told live) = Unit {0}
IsForNodes errors.NoMemory = ⊥
IsForNodes errors.Invalid = ⊥
IsForNodes (errors.BadShape field) = ⊥

-- The nodes of the tree were counted: there is a copy, or too few nodes for one.
abbrev pub WasCounted : {X : Type 0} → Result X DupError → Type 0
WasCounted (Ok copy) = Unit {0}
WasCounted (Err why) = IsForNodes why

-- A tree of this kind may be copied into this shape: it is in range, and of this kind.
abbrev pub IsFit : Shape → Kind → Type 0
IsFit shape kind = (first_bad shape ≡ None) × (shape.kind ≡ kind)

-- Why there is no copy of this shape of a tree of this kind, whatever its nodes: the first field of the shape that is out of
-- range, or else another kind.
abbrev pub IsRefusal : Shape → Kind → Option DupError → Type 0
IsRefusal shape kind None = IsFit shape kind
IsRefusal shape kind (Some (errors.BadShape field)) = first_bad shape ≡ Some field
IsRefusal shape kind (Some errors.Invalid) = (first_bad shape ≡ None) × (shape.kind ≢ kind)
IsRefusal shape kind (Some (errors.NoNodes told live)) = ⊥
IsRefusal shape kind (Some errors.NoMemory) = ⊥

-- a refusal for lack of nodes or of memory
abbrev pub IsForRoom : DupError → Type 0
IsForRoom (errors.NoNodes told live) = Unit {0}
IsForRoom errors.NoMemory = Unit {0}
IsForRoom errors.Invalid = ⊥
IsForRoom (errors.BadShape field) = ⊥

-- An engine may be made from these nodes and this book, and a tree opens with it. No call was begun, and there are at most as
-- many live nodes as a map of that many ranges may have.
pub record IsReadyToOpen (kind : Kind) (rows : ℕ) (m : List Range) (s : Sheet) (book : Book) : Type 0 where
  pub idle : IsIdle kind s book
  pub first : s.ended ≡ 0
  pub many : s.tree.rows ≡ rows
  pub map : map_by s.tree ≡ m
  pub few : s.opened ≤ length m / 2 + 2
