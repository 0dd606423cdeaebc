-- What is drawn of an image.
-- Source: this project's own.
use Rattle.std.specs.Prelude.{◌≡◌, ℕ, List, Ok}
use Rattle.mt_draw.specs.Prelude.{height_in, Image, image_in}
use Rattle.mt_draw.specs.declared.forms.PictureForm.{PictureForm}
use Rattle.mt_draw.specs.declared.forms.PictureForm.TheVariants as forms
use Rattle.mt_draw.specs.declared.trees.DrawnTree.{DrawnTree}
use Rattle.mt_draw.specs.Trees.{nodes_in, table_of}
use Rattle.mt_draw.specs.Texts.{dump_text}

-- the tree of an image, with its nodes in hand
pub record IsTreeOfImage (x : Image) (tree : DrawnTree) : Type 0 where
  pub kind : tree.kind ≡ x.kind
  pub table : table_of tree ≡ x.tree.table
  pub root : tree.root ≡ x.tree.root
  pub height : tree.height ≡ height_in (table_of tree) tree.root
  pub nodes : tree.nodes.items ≡ nodes_in (table_of tree) tree.root

-- the bytes are the image of this tree
pub record IsTreeIn (bytes : List ℕ) (tree : DrawnTree) : Type 0 where
  pub image : Image
  pub read : image_in bytes ≡ Ok image
  pub is : IsTreeOfImage image tree

-- the bytes are an image, and where its text is asked for, that is what is written
pub record IsPicture (form : PictureForm) (bytes text : List ℕ) : Type 0 where
  pub image : Image
  pub read : image_in bytes ≡ Ok image
  pub told : form ≡ forms.Text → text ≡ dump_text image.kind image.tree.table image.tree.root
