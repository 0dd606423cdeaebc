-- What is true of a tree in which too few rows are free, when the rows that no section holds were freed.
use Rattle.mt_engine.proofs.Prelude.{◌≡◌, ◌≢◌, ℕ, zero, suc, ◌+◌, ◌-◌, ◌*◌, ◌^◌, ◌<◌, ◌≤◌, List, [], ◌∷◌, ◌++◌, Bool, false, Option, Some, None, length, get_or, refl, sym, ◌∙◌, subst, inl, inr, arith, length-append, nat_lt, ◌↔◌, IsSome, IfSome, if◌then◌else◌, All, AllPairs, false≢true, lt-ltb, length-map, get_or-append-add, All-map, All-head, Kind, Holder, Shortage, IsShort, deepest, StampedRow, Book, held_rows, Scan, reached_in, height_in, Told, Sheet, IsScan, scanned, limits_of, IsHeldBack, IsRealShortage, map_by, live_is_reached, IsEngineState, TellsBook, IsScanned, IsShortOf}
use Rattle.mt_engine.proofs.Levelled.{Levelled, levelled}
use Rattle.mt_engine.proofs.Moments.{tree_if_lawful}
use Rattle.mt_engine.proofs.Reclaims.{left_later}

pub low_height : (kind : Kind) (s : Sheet) (book : Book) (height : ℕ) → IsEngineState kind s book → height ≡ height_in s.tree.table s.tree.root → height ≤ deepest
low_height kind s book height is at = (let low = (levelled s.tree kind (tree_if_lawful s.tree kind is.kept.lawful)).low in omega (arith, low, at))

-- ---- who holds rows

record HolderTold (by : Option Holder) (held ended : ℕ) : Type 0 where
  holder : IsSome by ↔ (0 < held)
  epoch : IfSome by (λ (h : Holder). h.epoch ≤ ended)

module _ (shared : Bool) (told : Option Told) (scan : Scan) (is : IsScan shared told scan) (held ended : ℕ) (later : 0 < held → scan.least < ended) (few : ended < 2 ^ 64) where
  -- where some rows are held, a section was found that holds them
  holder_of : 0 < held → HolderTold scan.by held ended
  holder_of some = elim is.least [
    | inl none ↦ absurd (let most = none.1 in let less = later some in omega (arith, most, less, few))
    | inr told ↦
        (let least = told.2 in let less = later some in
        subst (λ (by : Option Holder). HolderTold by held ended) (sym told.1) (record { holder = (λ _. some, λ _. refl); epoch = omega (arith, least, less) }))
  ]

  -- and where nobody reads none is
  none_held : shared ≡ false → held ≡ 0
  none_held alone = by held later
    where
      greatest_least : scan.least ≡ 2 ^ 64 - 1
      greatest_least = elim is.least [
        | inl none ↦ none.1
        | inr told ↦ (let clash : None ≡ Some told.0 = sym (is.alone alone) ∙ told.1 in absurd (cc))
      ]

      by : (n : ℕ) → (0 < n → scan.least < ended) → n ≡ 0
      by zero later = refl
      by (suc n) later = absurd (let less = later (omega arith) in let most = greatest_least in omega (arith, less, most, few))

holder_told : (by : Option Holder) (held ended : ℕ) → (0 < held → HolderTold by held ended) → HolderTold (if nat_lt 0 held then by else None) held ended
holder_told by zero ended some = record { holder = (λ is. absurd (false≢true is), λ some. absurd (omega (arith, some))); epoch = tt }
holder_told by (suc n) ended some = rw (lt-ltb 0 (suc n) (omega arith)) (some (omega arith))

held_later : (least ended : ℕ) (held : List StampedRow) → All (λ (h : StampedRow). least < h.stamp) held → All (λ (h : StampedRow). h.stamp < ended + 1) held → 0 < length held → least < ended
held_later least ended [] later stamps some = absurd (omega (arith, some))
held_later least ended (h ∷ held) later stamps some =
    let after : least < h.stamp = All-head (λ (h : StampedRow). least < h.stamp) h held later in
    let below : h.stamp < ended + 1 = All-head (λ (h : StampedRow). h.stamp < ended + 1) h held stamps in
    omega (arith, after, below)

-- the later ones of rows that stand apart stand apart
back_apart : (xs ys : List ℕ) → AllPairs (λ r q. r ≢ q) (xs ++ ys) → AllPairs (λ r q. r ≢ q) ys
back_apart xs ys apart i j d lt within is =
    apart (length xs + i) (length xs + j) d (omega (arith, lt)) (omega (arith, within, length-append xs ys)) (get_or-append-add xs ys i d ∙ (is ∙ sym (get_or-append-add xs ys j d)))

-- ---- a shortage

module _ (kind : Kind) (s : Sheet) (book : Book) (shortage : Shortage) (is : IsEngineState kind s book) (scan : IsScan s.shared s.told s.scan) (few : s.ended < 2 ^ 64) (later : All (λ (h : StampedRow). s.scan.least < h.stamp) book.held) (tells : TellsBook book shortage)
    (need : shortage.need ≡ 3 * height_in s.tree.table s.tree.root + 1) (by : shortage.by ≡ (if nat_lt 0 shortage.held then s.scan.by else None)) (less : shortage.free < shortage.need) where
  live : shortage.live ≡ length (reached_in s.tree.table s.tree.root)
  live = tells.live ∙ live_is_reached s.tree s.lives s.cleared kind book (s.ended + 1) (tree_if_lawful s.tree kind is.kept.lawful) is.kept.booked

  levels : Levelled (height_in s.tree.table s.tree.root) shortage.live (map_by s.tree)
  levels = subst (λ (n : ℕ). Levelled (height_in s.tree.table s.tree.root) n (map_by s.tree)) (sym live) (levelled s.tree kind (tree_if_lawful s.tree kind is.kept.lawful))

  early : 0 < shortage.held → s.scan.least < s.ended
  early some = held_later s.scan.least s.ended book.held later is.kept.booked.stamps (let held = tells.held in omega (arith, held, some))

  told : HolderTold shortage.by shortage.held s.ended
  told = subst (λ (o : Option Holder). HolderTold o shortage.held s.ended) (sym by)
      (holder_told s.scan.by shortage.held s.ended (holder_of s.shared s.told s.scan scan shortage.held s.ended early few))

  is_short : IsShort (limits_of s) (map_by s.tree) shortage
  is_short = record {
    all = (let free = tells.free in let live = tells.live in let held = tells.held in let counted = is.kept.booked.sound.counted in let rows = is.kept.booked.rows in omega (arith, free, live, held, counted, rows));
    levels = height_in s.tree.table s.tree.root;
    low = levels.low;
    need = need;
    few = less;
    flat = levels.flat;
    tall = levels.tall;
    each = levels.each;
    none = levels.none;
    half = levels.half;
    holder = told.holder;
    epoch = told.epoch;
    grown = (let live = tells.live in let held = tells.held in let grown = is.grown in omega (arith, live, held, grown));
    unheld = none_held s.shared s.told s.scan scan shortage.held s.ended early few;
  }

  held_back : All (λ (h : StampedRow). IsHeldBack s.lives s.scan.least h.row) book.held
  held_back = λ k d within. record { call = (get_or book.held k d).stamp; dead = is.held k d within; after = later k d within }

  counted : IsRealShortage s shortage
  counted = record {
    need = need;
    live = live;
    rows = held_rows book;
    many = length-map book.held (λ (h : StampedRow). h.row) ∙ sym tells.held;
    apart = back_apart book.free (held_rows book) is.kept.booked.sound.once;
    held = All-map (IsHeldBack s.lives s.scan.least) (λ (h : StampedRow). h.row) book.held held_back;
    by = by;
  }

  short_of : IsShortOf s book shortage
  short_of = record { short = is_short; counted = counted; tells = tells }

-- after the scan
pub short_after : (kind : Kind) (s s' : Sheet) (answer : Scan) (book book' : Book) (shortage : Shortage) → IsScanned kind s s' book book' → s' ≡ scanned s answer s'.cleared → IsScan s.shared s.told answer → s.ended < 2 ^ 64
    → TellsBook book' shortage → shortage.need ≡ 3 * height_in s.tree.table s.tree.root + 1 → shortage.by ≡ (if nat_lt 0 shortage.held then answer.by else None) → shortage.free < shortage.need → IsShortOf s' book' shortage
short_after kind s s' answer book book' shortage is rest scan few tells need by less =
    short_of kind s' book' shortage is.state (subst (λ (x : Sheet). IsScan x.shared x.told x.scan) (sym rest) scan) (subst (λ (x : Sheet). x.ended < 2 ^ 64) (sym rest) few)
    (subst (λ (b : Book). All (λ (h : StampedRow). s'.scan.least < h.stamp) b.held) (sym is.freed) (left_later s'.scan.least book.held)) tells
    (subst (λ (x : Sheet). shortage.need ≡ 3 * height_in x.tree.table x.tree.root + 1) (sym rest) need)
    (subst (λ (x : Sheet). shortage.by ≡ (if nat_lt 0 shortage.held then x.scan.by else None)) (sym rest) by) less
