-- The image of rows that were built is the image of bulk's tree.
use Rattle.mt_commands.proofs.Prelude.{◌≡◌, ℕ, List, ap, subst, Kind, Range, IsBuilt, IsImageOf, map_by, Rooted, Sheet, IsBulkImage, bulk_tree}

pub bulk_image : (kind : Kind) (ranges : List Range) (s : Sheet) (bytes : List ℕ) → IsBuilt kind ranges s → IsImageOf kind s.tree bytes → IsBulkImage kind ranges bytes
bulk_image kind ranges s bytes built image = record {
  of = subst (λ (t : Rooted). IsImageOf kind t bytes) same image;
  map = subst (λ (t : Rooted). map_by t ≡ ranges) same built.map;
}
  where
    same : s.tree ≡ bulk_tree kind ranges
    same = ap (λ (x : Sheet). x.tree) built.words.rest
