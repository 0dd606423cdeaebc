-- A tree that opens with the map of an image, or why there is none; and an image in a buffer.
use Rattle.mt_c.proofs.Prelude.{◌≡◌, ◌≢◌, ℕ, ◌<◌, ◌≤◌, ◌++◌, List, Option, Some, None, drop, length, refl, sym, subst, inl, inr, ◌⊎◌, Result, Ok, Err, IsErr, Kind, ImageError, IsImageOf, Image, image_in, few_reached, IsLawfulOf, map_by, Rooted, Parts, live_rows, IsAsked, FitsRows, IsOpenedWith, LacksTree, Imaged, IsOfImage, LacksImage, TellsImage, OwnTree}
use Rattle.mt_image.specs.declared.errors.ImageError.TheVariants as errors

-- ---- opening

pub no_image : (bytes : List ℕ) (rows : ℕ) (e : ImageError) (status : ℕ) → ((status ≡ 74) × (e ≢ errors.NoMemory)) ⊎ (status ≡ 12) → (e ≢ errors.NoMemory → image_in bytes ≡ Err e) → LacksImage bytes rows status
no_image bytes rows e status (inl other) tells = inl (other.0, subst (λ (r : Result Image ImageError). IsErr r) (sym (tells other.1)) refl)
no_image bytes rows e status (inr none) tells = inr (inr none)

-- no more rows are in use than there are
pub used_all : (kind : Kind) (t : Rooted) (used : ℕ) → IsLawfulOf t kind → used ≡ t.rows → live_rows t ≤ used
used_all kind t used lawful count = subst (λ (n : ℕ). live_rows t ≤ n) (sym count) (few_reached kind t lawful)

module _ (bytes : List ℕ) (rows : ℕ) (kind : Kind) (tree : Rooted) (used : ℕ) (read : image_in bytes ≡ Ok (record { kind = kind; tree = tree })) (count : used ≡ tree.rows) where
  pub of_image_in : (t : Parts) → FitsRows used rows → IsOpenedWith kind rows (map_by tree) t → IsOfImage bytes rows t
  of_image_in t fits opened = (record { kind = kind; tree = tree }, read, subst (λ (n : ℕ). FitsRows n rows) count fits, opened)

  pub image_lacks : (status : ℕ) → LacksTree used rows status → LacksImage bytes rows status
  image_lacks status (inl few) = inr (inl (record { kind = kind; tree = tree }, read, few.0, λ fits. few.1 (subst (λ (n : ℕ). FitsRows n rows) (sym count) fits)))
  image_lacks status (inr none) = inr (inr none.0)

-- ---- writing

module _ (before after : Option OwnTree) (out out' : List ℕ) (used status : ℕ) where
  pub imaged_closed : before ≡ None → after ≡ None → status ≡ 9 → out' ≡ out → used ≡ 0 → Imaged before after out out' used status
  imaged_closed was is number same none = subst (λ (x : Option OwnTree). Imaged x after out out' used status) (sym was) (is, number, same, none)

  module _ (t t' : OwnTree) (was : before ≡ Some t) (is : after ≡ Some t') (asked : IsAsked t.engine t'.engine) where
    tells : TellsImage t.engine out out' used status → Imaged before after out out' used status
    tells told = subst (λ (x : Option OwnTree × Option OwnTree). Imaged x.0 x.1 out out' used status) (λ i. (sym was i, sym is i)) (asked, told)

    pub imaged_put : (bytes : List ℕ) → IsImageOf t.engine.kind t.engine.sheet.tree bytes → status ≡ 0 → used ≡ length bytes → length bytes ≤ length out → out' ≡ bytes ++ drop (length bytes) out → Imaged before after out out' used status
    imaged_put bytes image number count room put = tells (inl (number, (bytes, image, count, room, put)))

    pub imaged_short : (bytes : List ℕ) → IsImageOf t.engine.kind t.engine.sheet.tree bytes → status ≡ 34 → used ≡ length bytes → length out < length bytes → out' ≡ out → Imaged before after out out' used status
    imaged_short bytes image number count short same = tells (inr (inl (number, same, (bytes, image, count, short))))

    pub imaged_none : status ≡ 12 → out' ≡ out → used ≡ 0 → Imaged before after out out' used status
    imaged_none number same none = tells (inr (inr (number, same, none)))

pub ruleset imaged_so = (imaged_closed, imaged_put, imaged_short, imaged_none)
