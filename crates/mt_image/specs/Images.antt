-- What an image of a tree is, where only its words or its map are known.
-- Source: this project's own.
use Rattle.std.specs.Prelude.{◌≡◌, ℕ, List}
use Rattle.mt_image.specs.Prelude.{Kind, Range, IsCopy, map_by, Rooted}
use Rattle.mt_image.specs.Bytes.{image_of}
use Rattle.mt_image.specs.Orders.{IsGood}

-- a copy of the tree that represents the same map, with its nodes in the order of the walk
pub record IsOrderedCopy (kind : Kind) (t t' : Rooted) : Type 0 where
  pub good : IsGood kind t'
  pub copied : IsCopy t t'
  pub same_map : map_by t' ≡ map_by t

-- the bytes are the image of such a copy of the tree
pub record IsImageOf (kind : Kind) (t : Rooted) (bytes : List ℕ) : Type 0 where
  pub copy : Rooted
  pub of : IsOrderedCopy kind t copy
  pub bytes_are : bytes ≡ image_of kind copy

-- the bytes are the image of some tree of this map
pub record IsImageOfMap (kind : Kind) (m : List Range) (bytes : List ℕ) : Type 0 where
  pub tree : Rooted
  pub good : IsGood kind tree
  pub map : map_by tree ≡ m
  pub bytes_are : bytes ≡ image_of kind tree
