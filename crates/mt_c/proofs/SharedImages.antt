-- A shared tree that opens with the map of an image, or of ranges, or why there is none.
use Rattle.mt_c.proofs.Prelude.{◌≡◌, ◌≢◌, ℕ, List, Option, Some, None, refl, sym, ap, subst, inl, inr, arith, ◌⊎◌, Result, Ok, Err, IsErr, Kind, Range, IsBuilt, rows_in, misplaced, ImageError, kind_code, Image, image_in, few_reached, IsLawfulOf, map_by, Rooted, Sheet, Shape, BuildWhy, User, UserHandle, LacksAnyhow, unopened, IfClosed, BuildsIf, BuildsSo, IsFirstOfImage, IsFirstOfRanges, LacksFirstOfImage, LacksFirstOfRanges, LacksMany, OpensSo, OpensUser, SharedBuilds, IsFirstWith, LacksWith, shape_for, IsLeftClosed}
use Rattle.mt_image.specs.declared.errors.ImageError.TheVariants as errors
use Rattle.mt_c.proofs.RangesBuilt.{lacks_anyhow}
use Rattle.mt_c.proofs.Sharing.{left_none, left_some}

-- where the rows are fewer than lawful words have in use, they are fewer than those have
many_lack : (shape : Shape) (words : Rooted) (status : ℕ) → IsLawfulOf words shape.kind → LacksWith shape words status → LacksMany shape words.rows status
many_lack shape words status lawful (inl bad) = inl bad
many_lack shape words status lawful (inr (good, inl few)) = (let least = few.1 in let within = few_reached shape.kind words lawful in inr (good, inl (few.0, omega (arith, least, within))))
many_lack shape words status lawful (inr (good, inr none)) = inr (good, inr none)

-- ---- images

module _ (bytes : List ℕ) (rows passes calls : ℕ) where
  pub no_image : (e : ImageError) (status : ℕ) → ((status ≡ 74) × (e ≢ errors.NoMemory)) ⊎ (status ≡ 12) → (e ≢ errors.NoMemory → image_in bytes ≡ Err e) → LacksFirstOfImage bytes rows passes calls status
  no_image e status (inl other) tells = inl (other.0, subst (λ (r : Result Image ImageError). IsErr r) (sym (tells other.1)) refl)
  no_image e status (inr none) tells = inr (inr none)

  module _ (kind : Kind) (tree : Rooted) (read : image_in bytes ≡ Ok (record { kind = kind; tree = tree })) where
    pub of_image : (u : User) → IsFirstWith (shape_for kind rows passes calls) (map_by tree) u → IsFirstOfImage bytes rows passes calls u
    of_image u first = (record { kind = kind; tree = tree }, read, first)

    pub image_lacks : (status : ℕ) → IsLawfulOf tree kind → LacksWith (shape_for kind rows passes calls) tree status → LacksFirstOfImage bytes rows passes calls status
    image_lacks status lawful lacks = inr (inl (record { kind = kind; tree = tree }, read, many_lack (shape_for kind rows passes calls) tree status lawful lacks))

-- ---- ranges

module _ (code rows passes calls : ℕ) (m : List Range) where
  pub no_kind_ranges : (why : BuildWhy) → why ≡ record { status = 22; at = 0 } → ((kind : Kind) → kind_code kind ≢ code) → LacksFirstOfRanges code rows passes calls m why.status why.at
  no_kind_ranges why is none = subst (λ (w : BuildWhy). LacksFirstOfRanges code rows passes calls m w.status w.at) (sym is) (inl (inl (refl, refl, none)))

  module _ (kind : Kind) (coded : kind_code kind ≡ code) where
    pub no_ranges : (why : BuildWhy) → LacksAnyhow kind m why → LacksFirstOfRanges code rows passes calls m why.status why.at
    no_ranges why lacks = inl (lacks_anyhow code rows kind m coded why lacks)

    module _ (s : Sheet) (built : IsBuilt kind m s) where
      pub of_ranges : (u : User) → misplaced kind m ≡ None → IsFirstWith (shape_for kind rows passes calls) (map_by s.tree) u → IsFirstOfRanges code rows passes calls m u
      of_ranges u good first = (kind, coded, good, subst (λ (x : List Range). IsFirstWith (shape_for kind rows passes calls) x u) built.map first)

      pub ranges_lack : (status : ℕ) (why : BuildWhy) → LacksWith (shape_for kind rows passes calls) s.tree status → why ≡ record { status = status; at = 0 } → LacksFirstOfRanges code rows passes calls m why.status why.at
      ranges_lack status why lacks is =
          let many : s.tree.rows ≡ rows_in kind m = ap (λ (x : Sheet). x.tree.rows) built.words.rest in
          subst (λ (w : BuildWhy). LacksFirstOfRanges code rows passes calls m w.status w.at) (sym is)
          (inr (kind, coded, refl, subst (λ (n : ℕ). LacksMany (shape_for kind rows passes calls) n status) many (many_lack (shape_for kind rows passes calls) s.tree status built.lawful lacks)))

pub ruleset first_of_ranges = (no_kind_ranges, no_ranges, of_ranges, ranges_lack)

-- ---- what C keeps

module _ (is : User → Type 0) (lacks : ℕ → Type 0) (before after : UserHandle) (status : ℕ) where
  pub opens_busy : (number : ℕ) → unopened before.state ≡ Some number → after ≡ before → status ≡ number → OpensUser is lacks before after status
  opens_busy number taken same told = subst (λ (o : Option ℕ). IfClosed o before after status (OpensSo is lacks after.kept.value status)) (sym taken) (same, told)

  opens_so : (o : Option User) → before.state ≡ 0 → after.kept.value ≡ o → IsLeftClosed after → OpensSo is lacks o status → OpensUser is lacks before after status
  opens_so o closed made left so =
      subst (λ (x : Option ℕ × Option User). IfClosed x.0 before after status (OpensSo is lacks x.1 status)) (λ i. (sym (ap unopened closed) i, sym made i)) (left, so)

  pub opens_made : (u : User) → before.state ≡ 0 → after.kept.value ≡ Some u → status ≡ 0 → is u → OpensUser is lacks before after status
  opens_made u closed made number ok = opens_so (Some u) closed made (left_some after u made) (number, ok)

  pub opens_none : before.state ≡ 0 → after.kept.value ≡ None → after.state ≡ 0 → lacks status → OpensUser is lacks before after status
  opens_none closed none shut why = opens_so None closed none (left_none after shut) why

module _ (code rows passes calls : ℕ) (m : List Range) (before after : UserHandle) (status at : ℕ) where
  pub builds_busy : (number : ℕ) → unopened before.state ≡ Some number → after ≡ before → status ≡ number → at ≡ 0 → SharedBuilds code rows passes calls m before after status at
  builds_busy number taken same told place = subst (λ (o : Option ℕ). BuildsIf o before after status at (BuildsSo code rows passes calls m after.kept.value status at)) (sym taken) (same, told, place)

  builds_so : (o : Option User) → before.state ≡ 0 → after.kept.value ≡ o → IsLeftClosed after → BuildsSo code rows passes calls m o status at → SharedBuilds code rows passes calls m before after status at
  builds_so o closed made left so =
      subst (λ (x : Option ℕ × Option User). BuildsIf x.0 before after status at (BuildsSo code rows passes calls m x.1 status at)) (λ i. (sym (ap unopened closed) i, sym made i)) (left, so)

  pub builds_made : (u : User) → before.state ≡ 0 → after.kept.value ≡ Some u → status ≡ 0 → at ≡ 0 → IsFirstOfRanges code rows passes calls m u → SharedBuilds code rows passes calls m before after status at
  builds_made u closed made number place ok = builds_so (Some u) closed made (left_some after u made) (number, place, ok)

  pub builds_none : (why : BuildWhy) → before.state ≡ 0 → after.kept.value ≡ None → after.state ≡ 0 → status ≡ why.status → at ≡ why.at → LacksFirstOfRanges code rows passes calls m why.status why.at → SharedBuilds code rows passes calls m before after status at
  builds_none why closed none shut number place lacks =
      builds_so None closed none (left_none after shut) (subst (λ (x : ℕ × ℕ). LacksFirstOfRanges code rows passes calls m x.0 x.1) (λ i. (sym number i, sym place i)) lacks)
