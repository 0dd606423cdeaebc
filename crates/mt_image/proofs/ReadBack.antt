-- An image is read as the tree that it was made of, and what is read as a tree is its image.
use Rattle.mt_image.proofs.Prelude.{◌≡◌, ℕ, suc, ◌*◌, ◌^◌, ◌<◌, ◌==◌, true, false, List, [], ◌∷◌, ◌++◌, Some, Ok, length, drop, get_or, replicate, codes, nat_lt, refl, sym, ap, ◌∙◌, arith, append-nil, length-append, length-drop, eq-eqb, le-ltb, flat_map, w64, to_le_bytes, Kind, Range, Width, columns, first_row, kind_width, most_rows, Fault, checked, first_or, form_of, complete, Rooted, tree_as, map_by, image_of, kind_code, words_of, IsImageOf, IsImageOfMap, IsOrderedCopy, IsGood, number_at, numbers_from, kind_numbered, image_tree, lawful, placed, image_length, image_of_kind, image_in}
use Rattle.mt_base.specs.declared.kinds.Kind.TheVariants as kinds
use Rattle.mt_image.proofs.Numbers.{numbers_read}
use Rattle.mt_image.proofs.Sizes.{words_left}
use Rattle.mt_image.proofs.WalkOrder.{in_order}

-- ---- numbers are read as they were written

code_read : (kind : Kind) → kind_numbered (kind_code kind) ≡ Some kind
unfolding kind_numbered
code_read kinds.Range = refl
code_read kinds.Alloc = refl
code_read kinds.Range32 = refl
code_read kinds.Alloc32 = refl

code_small : (kind : Kind) → kind_code kind < 2 ^ 64
code_small kinds.Range = omega arith
code_small kinds.Alloc = omega arith
code_small kinds.Range32 = omega arith
code_small kinds.Alloc32 = omega arith

all_bytes : (ns : List ℕ) → length (flat_map (to_le_bytes w64) ns) ≡ 8 * length ns
all_bytes [] = refl
all_bytes (n ∷ ns) = let others = all_bytes ns in omega (arith, length-append (to_le_bytes w64 n) (flat_map (to_le_bytes w64) ns))

record AreRead (bytes : List ℕ) (kind : Kind) (t : Rooted) : Type 0 where
  code : number_at bytes 8 ≡ kind_code kind
  rows : number_at bytes 16 ≡ t.rows
  root : number_at bytes 24 ≡ t.root
  words : numbers_from bytes 32 (length (words_of t)) ≡ words_of t

module _ (kind : Kind) (t : Rooted) (good : IsGood kind t) where
  abbrev bytes : List ℕ
  bytes = image_of kind t

  abbrev ns : List ℕ
  ns = kind_code kind ∷ (t.rows ∷ (t.root ∷ words_of t))

  all_read : numbers_from bytes 8 (suc (suc (suc (length (words_of t))))) ≡ ns
  all_read =
      ap (λ (l : List ℕ). numbers_from (codes "mtimage1" ++ l) 8 (suc (suc (suc (length (words_of t)))))) (sym (append-nil (flat_map (to_le_bytes w64) ns)))
      ∙ numbers_read ns (codes "mtimage1") [] (code_small kind, (let few = good.whole.few in omega arith, (good.whole.root, good.whole.small)))

  are_read : AreRead bytes kind t
  unfolding numbers_from
  are_read =
      let all : number_at bytes 8 ∷ (number_at bytes 16 ∷ (number_at bytes 24 ∷ numbers_from bytes 32 (length (words_of t)))) ≡ kind_code kind ∷ (t.rows ∷ (t.root ∷ words_of t)) = all_read in
      record {
        code = ap (λ (l : List ℕ). get_or l 0 0) all;
        rows = ap (λ (l : List ℕ). get_or l 1 0) all;
        root = ap (λ (l : List ℕ). get_or l 2 0) all;
        words = ap (λ (l : List ℕ). drop 3 l) all;
      }

  size : length (words_of t) ≡ t.rows * columns (kind_width kind)
  size =
      words_left t.table.width t.rows (length t.table.words) (length (words_of t)) good.whole.size (length-drop (columns t.table.width * first_row) t.table.words)
      ∙ ap (λ (w : Width). t.rows * columns w) good.lawful.width

  zeros : t.table.words ≡ replicate (columns (kind_width kind) * first_row) 0 ++ words_of t
  zeros = good.whole.zeros ∙ ap (λ (w : Width). replicate (columns w * first_row) 0 ++ words_of t) good.lawful.width

  tree_is : image_tree bytes kind ≡ t
  tree_is =
      let rows_is = are_read.rows in
      let many : number_at bytes 16 * columns (kind_width kind) ≡ length (words_of t) = ap (λ (n : ℕ). n * columns (kind_width kind)) rows_is ∙ sym size in
      let words_is = ap (λ (l : List ℕ). replicate (columns (kind_width kind) * first_row) 0 ++ l) (ap (numbers_from bytes 32) many ∙ are_read.words) ∙ sym zeros in
      (λ i. record { rows = rows_is i; table = record { width = sym good.lawful.width i; words = words_is i }; root = are_read.root i })

  long : length bytes ≡ image_length kind t.rows
  long = omega (arith, length-append (codes "mtimage1") (flat_map (to_le_bytes w64) ns), all_bytes ns, size)

  -- the words of the tree have no fault
  faultless : checked (tree_as kind t) ≡ Ok (form_of (tree_as kind t))
  faultless = ap (λ (faults : List Fault). first_or faults (form_of (tree_as kind t))) (complete (tree_as kind t) good.lawful.words)

  pub image_read : image_in bytes ≡ Ok (record { kind = kind; tree = t })
  unfolding image_in
  image_read =
      let short : nat_lt (length bytes) 32 ≡ false = le-ltb (length bytes) 32 (let is = long in omega arith) in
      rw short (ap (image_of_kind bytes) (ap kind_numbered are_read.code ∙ code_read kind) ∙ behind_head)
    where
      behind_head : image_of_kind bytes (Some kind) ≡ Ok (record { kind = kind; tree = t })
      behind_head =
          let rows_is = are_read.rows in
          let few : nat_lt most_rows (number_at bytes 16) ≡ false = le-ltb most_rows (number_at bytes 16) (let most = good.whole.few in omega arith) in
          let size : (length bytes == image_length kind (number_at bytes 16)) ≡ true = eq-eqb (length bytes) (image_length kind (number_at bytes 16)) (long ∙ ap (image_length kind) (sym rows_is)) in
          rw (few, size)
          (ap (λ (x : Rooted). lawful (record { kind = kind; tree = x }) (checked (tree_as kind x))) tree_is
          ∙ (ap (lawful (record { kind = kind; tree = t })) faultless ∙ ap (placed (record { kind = kind; tree = t })) (in_order t good.order)))

-- the image of a tree is read as a copy of it
pub copy_read : (kind : Kind) (t : Rooted) (bytes : List ℕ) → IsImageOf kind t bytes → (t' : Rooted) × IsOrderedCopy kind t t' × (image_in bytes ≡ Ok (record { kind = kind; tree = t' }))
copy_read kind t bs image = (image.copy, image.of, ap image_in image.bytes_are ∙ image_read kind image.copy image.of.good)

-- and one of its map, as which it is read
pub image_of_map : (kind : Kind) (t : Rooted) (bytes : List ℕ) → IsImageOf kind t bytes → IsImageOfMap kind (map_by t) bytes
image_of_map kind t bs image = record { tree = image.copy; good = image.of.good; map = image.of.same_map; bytes_are = image.bytes_are }

pub map_read : (kind : Kind) (m : List Range) (bytes : List ℕ) → IsImageOfMap kind m bytes → (t : Rooted) × (image_in bytes ≡ Ok (record { kind = kind; tree = t })) × (map_by t ≡ m)
map_read kind m bs image = (image.tree, ap image_in image.bytes_are ∙ image_read kind image.tree image.good, image.map)
