-- A tree that opens with the map of another.
use Rattle.mt_c.proofs.Prelude.{◌≡◌, ◌∙◌, ℕ, ◌≤◌, List, Option, Some, None, IfOk, IfErr, refl, sym, ap, subst, arith, Result, Ok, Err, Kind, Range, Book, live_count, map_by, OnlyReads, Rooted, Sheet, Parts, IsReadyToOpen, live_rows, IsAsked, Copied, FitsRows, IsCopyInRows, IsOpenedWith, LacksTree, OpensHandle, IsOfImage, LacksImage, OwnTree}

pub opened_with : (kind : Kind) (many rows : ℕ) (m : List Range) (s : Sheet) (book : Book) (e : Parts) → many ≡ rows → IsReadyToOpen kind many m s book → OnlyReads s e.sheet → e.kind ≡ kind → IsOpenedWith kind rows m e
opened_with kind many rows m s book e wanted ready reads same = record {
  kind_is = same;
  rows_are = ap (λ (x : Sheet). x.tree.rows) reads ∙ (ready.many ∙ wanted);
  map = ap (λ (x : Sheet). map_by x.tree) reads ∙ ready.map;
  first = ap (λ (x : Sheet). x.ended) reads ∙ ready.first;
}

-- the rows were taken out of an engine, and so many of them were used
module _ (e : Parts) (s : Sheet) (kind : Kind) (used rows : ℕ) (taken : s ≡ e.sheet) (same : kind ≡ e.kind) (count : used ≡ live_rows s.tree) where
  used_there : used ≡ live_rows e.sheet.tree
  used_there = count ∙ ap (λ (x : Sheet). live_rows x.tree) taken

  pub copy_in : (t : Parts) → FitsRows used rows → IsOpenedWith kind rows (map_by s.tree) t → IsCopyInRows rows e t
  copy_in t fits opened = (
    subst (λ (n : ℕ). FitsRows n rows) used_there fits,
    subst (λ (x : Kind × Sheet). IsOpenedWith x.0 rows (map_by x.1.tree) t) (λ i. (same i, taken i)) opened,
  )

  pub lacks_in : (status : ℕ) → LacksTree used rows status → LacksTree (live_rows e.sheet.tree) rows status
  lacks_in status lacks = subst (λ (n : ℕ). LacksTree n rows status) used_there lacks

  pub copy_told : {X : Type 0} (made : Result X ℕ) (engine_of : X → Parts) → IfOk made (λ x. FitsRows used rows) → IfOk made (λ x. IsOpenedWith kind rows (map_by s.tree) (engine_of x)) → IfOk made (λ x. IsCopyInRows rows e (engine_of x))
  copy_told (Ok x) engine_of fits opened = copy_in (engine_of x) fits opened
  copy_told (Err n) engine_of fits opened = fits

  pub lacks_told : {X : Type 0} (made : Result X ℕ) → IfErr made (LacksTree used rows) → IfErr made (LacksTree (live_rows e.sheet.tree) rows)
  lacks_told (Ok x) lacks = lacks
  lacks_told (Err n) lacks = lacks_in n lacks

-- as many rows are in use as the book counts
pub used_count : (t : Rooted) (book : Book) (used : ℕ) → used ≡ live_count book → live_count book ≡ live_rows t → live_rows t ≤ used
used_count t book used count live = omega (arith, count, live)

-- the box of a tree that an engine begins
pub boxed_with : (kind : Kind) (rows : ℕ) (m : List Range) (e : Parts) (t t' : OwnTree) → IsOpenedWith kind rows m e → t.engine ≡ e → t' ≡ t → IsOpenedWith kind rows m t'.engine
boxed_with kind rows m e t t' opened begun boxed = subst (IsOpenedWith kind rows m) (sym (ap (λ (x : OwnTree). x.engine) boxed ∙ begun)) opened

-- ---- what C keeps

module _ (is : Parts → Type 0) (lacks : ℕ → Type 0) (before after : Option OwnTree) (status : ℕ) where
  opens_busy : (t : OwnTree) → before ≡ Some t → after ≡ Some t → status ≡ 114 → OpensHandle is lacks before after status
  opens_busy t was stays number = subst (λ (x : Option OwnTree). OpensHandle is lacks x after status) (sym was) (stays, number)

  opens_made : (t : OwnTree) → before ≡ None → after ≡ Some t → status ≡ 0 → is t.engine → OpensHandle is lacks before after status
  opens_made t was made number ok = subst (λ (x : Option OwnTree × Option OwnTree). OpensHandle is lacks x.0 x.1 status) (λ i. (sym was i, sym made i)) (number, ok)

  opens_none : before ≡ None → after ≡ None → lacks status → OpensHandle is lacks before after status
  opens_none was stays why = subst (λ (x : Option OwnTree × Option OwnTree). OpensHandle is lacks x.0 x.1 status) (λ i. (sym was i, sym stays i)) why

module _ (rows : ℕ) (before after copy copy' : Option OwnTree) (status : ℕ) where
  pub copied_closed : before ≡ None → after ≡ None → copy' ≡ copy → status ≡ 9 → Copied rows before after copy copy' status
  copied_closed was is same number = subst (λ (x : Option OwnTree). Copied rows x after copy copy' status) (sym was) (is, same, number)

  module _ (t t' : OwnTree) (was : before ≡ Some t) (is : after ≡ Some t') (asked : IsAsked t.engine t'.engine) where
    opens_so : OpensHandle (IsCopyInRows rows t.engine) (LacksTree (live_rows t.engine.sheet.tree) rows) copy copy' status → Copied rows before after copy copy' status
    opens_so opens = subst (λ (x : Option OwnTree × Option OwnTree). Copied rows x.0 x.1 copy copy' status) (λ i. (sym was i, sym is i)) (asked, opens)

    pub copied_made : (c : OwnTree) → copy ≡ None → copy' ≡ Some c → status ≡ 0 → IsCopyInRows rows t.engine c.engine → Copied rows before after copy copy' status
    copied_made c none made number ok = opens_so (opens_made (IsCopyInRows rows t.engine) (LacksTree (live_rows t.engine.sheet.tree) rows) copy copy' status c none made number ok)

    pub copied_none : copy ≡ None → copy' ≡ None → LacksTree (live_rows t.engine.sheet.tree) rows status → Copied rows before after copy copy' status
    copied_none none stays why = opens_so (opens_none (IsCopyInRows rows t.engine) (LacksTree (live_rows t.engine.sheet.tree) rows) copy copy' status none stays why)

  -- the copy was open, and the tree is as it was
  pub copied_busy : (t c : OwnTree) → before ≡ Some t → after ≡ Some t → copy ≡ Some c → copy' ≡ Some c → status ≡ 114 → Copied rows before after copy copy' status
  copied_busy t c was is there stays number =
      opens_so t t was is (record { rest = refl; book = refl; kind = refl }) (opens_busy (IsCopyInRows rows t.engine) (LacksTree (live_rows t.engine.sheet.tree) rows) copy copy' status c there stays number)

module _ (bytes : List ℕ) (rows : ℕ) (before after : Option OwnTree) (status : ℕ) where
  pub image_busy : (t : OwnTree) → before ≡ Some t → after ≡ Some t → status ≡ 114 → OpensHandle (IsOfImage bytes rows) (LacksImage bytes rows) before after status
  image_busy = opens_busy (IsOfImage bytes rows) (LacksImage bytes rows) before after status

  pub image_opened : (t : OwnTree) → before ≡ None → after ≡ Some t → status ≡ 0 → IsOfImage bytes rows t.engine → OpensHandle (IsOfImage bytes rows) (LacksImage bytes rows) before after status
  image_opened = opens_made (IsOfImage bytes rows) (LacksImage bytes rows) before after status

  pub image_none : before ≡ None → after ≡ None → LacksImage bytes rows status → OpensHandle (IsOfImage bytes rows) (LacksImage bytes rows) before after status
  image_none = opens_none (IsOfImage bytes rows) (LacksImage bytes rows) before after status
