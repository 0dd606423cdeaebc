-- What is told of the words behind the lock: their form, their image, how many rows they have, and of a copy.
use Rattle.mt_tree.proofs.Prelude.{◌≡◌, ◌≢◌, ◌↔◌, ℕ, List, Some, None, length, refl, sym, ap, ◌∙◌, subst, ◌≤◌, ◌<◌, Result, Ok, Err, Kind, Range, Rooted, Sheet, OnlyReads, reached_in, map_by, IsLawfulOf, Book, live_count, IsIdle, Parts, HasHeight, Tree, Behind, Field, first_bad, IsImageOf, IsImageOfMap, image_of_map, DupError, AreWordsOf, IsForNodes, IsLiveCounted, IsReadyToOpen, IsRefusal, opened, idle_if_read, Identity, AtWork, Option, Pass, Tools, AreBack, LookedBehind, pass_in, steps_made, turn_seat, map_seen, behind_lock}
use Rattle.mt_base.specs.Passes as known
use Rattle.mt_tree.proofs.Copying.{live_reached}
use Rattle.mt_tree.specs.declared.shapes.Shape.{Shape}
use Rattle.mt_tree.specs.declared.shapes.DupError.TheVariants as errors
use Rattle.mt_tree.proofs.AtWork.{kind_still, rows_still, tree_is}
use Rattle.mt_tree.proofs.Calling.{map_still, only_read, saw_all, seen_still}

-- ---- rows that were only read

-- the rows were taken out of an engine that was of this kind, read, and put into another
pub lawful_as : (kind kind' : Kind) (e s : Sheet) (book : Book) → s ≡ e → kind ≡ kind' → IsIdle kind s book → IsLawfulOf s.tree kind'
lawful_as kind kind' e s book taken same idle = subst (IsLawfulOf s.tree) same idle.state.kept.lawful

pub idle_as : (kind kind' : Kind) (e s s' : Sheet) (book : Book) → s ≡ e → kind ≡ kind' → OnlyReads s s' → IsIdle kind s book → IsIdle kind' s' book
idle_as kind kind' e s s' book taken same reads idle = subst (λ (k : Kind). IsIdle k s' book) same (idle_if_read kind s s' book reads idle)

pub live_as : (kind : Kind) (e s : Sheet) (book : Book) → s ≡ e → IsIdle kind s book → live_count book ≡ length (reached_in s.tree.table s.tree.root)
live_as kind e s book taken idle = live_reached kind s book idle

pub high_as : (e s s' : Sheet) (height : ℕ) → s ≡ e → OnlyReads s s' → HasHeight e.tree height → HasHeight s'.tree height
high_as e s s' height same reads high = subst (λ (x : Sheet). HasHeight x.tree height) (sym reads) (subst (λ (x : Sheet). HasHeight x.tree height) (sym same) high)

pub reads_through : (e s s' e' : Sheet) → s ≡ e → OnlyReads s s' → e' ≡ s' → OnlyReads e e'
reads_through e s s' e' one reads two = subst (λ (x : Sheet × Sheet). OnlyReads x.0 x.1) (λ k. (one k, sym two k)) reads

-- ---- the words behind the lock

module _ (t : Tree) (i : Identity) (b : Behind) (p : known.Pass) (e : Parts) (w : AtWork t i b p e) where
  pub words_behind : (m : List Range) → map_by e.sheet.tree ≡ m → AreWordsOf (opened t).kind (opened t).rows m b.parts.sheet.tree
  words_behind m all =
      let tree : e.sheet.tree ≡ b.parts.sheet.tree = tree_is t i b p e w in
      record {
        lawful = subst (IsLawfulOf b.parts.sheet.tree) (sym w.kind ∙ kind_still t i b p e w) w.kept.idle.state.kept.lawful;
        many = ap (λ (x : Rooted). x.rows) (sym tree) ∙ rows_still t i b p e w;
        map = ap map_by (sym tree) ∙ all;
      }

-- a call at work has only read
module _ (t : Tree) (i : Identity) (b : Behind) (e e' : Parts) (tools : Option Tools) (p q : Pass) (w : AtWork t i b (pass_in p) e) (back : AreBack t e' tools q) where
  pub looked : OnlyReads e.sheet e'.sheet → e'.book ≡ e.book → e'.kind ≡ e.kind → steps_made q ≡ steps_made p → turn_seat q ≡ turn_seat p → LookedBehind t b (behind_lock tools) p q
  looked reads book kind steps turn =
      let told : e'.sheet.told ≡ e.sheet.told = ap (λ (s : Sheet). s.told) reads in
      record {
        state = only_read t i b (pass_in p) e e' tools q w back reads book kind;
        of = back.pass;
        rests = record { steps = steps; turn = turn };
        seen = seen_still t i b (pass_in p) e e' tools q w back told;
        saw = saw_all t i b (pass_in p) e e' tools q w back told;
        words = words_behind t i b (pass_in p) e w (map_seen t (pass_in q)) (map_still t i b (pass_in p) e e' tools q w back told);
      }

-- ---- of the tree

pub ready_there : (kind kind' : Kind) (m m' : List Range) (wanted : ℕ) (s : Sheet) (book : Book) → kind ≡ kind' → m ≡ m' → IsReadyToOpen kind wanted m s book → IsReadyToOpen kind' wanted m' s book
ready_there kind kind' m m' wanted s book same all is = subst (λ (x : Kind × List Range). IsReadyToOpen x.0 wanted x.1 s book) (λ k. (same k, all k)) is

-- ---- what is told of words that are kept back

pub map_imaged : (kind : Kind) (rows : ℕ) (m : List Range) (words : Rooted) (bytes : List ℕ) → AreWordsOf kind rows m words → IsImageOf kind words bytes → IsImageOfMap kind m bytes
map_imaged kind rows m words bytes of image = subst (λ (x : List Range). IsImageOfMap kind x bytes) of.map (image_of_map kind words bytes image)

pub copy_ready : (kind : Kind) (t read : Rooted) (live wanted rows : ℕ) (s : Sheet) (book : Book) → read ≡ t → rows ≡ wanted → IsLawfulOf t kind
    → (live ≤ rows → (k : Kind) → IsLawfulOf read k → IsReadyToOpen k rows (map_by read) s book) → live ≤ wanted → IsReadyToOpen kind wanted (map_by t) s book
copy_ready kind t read live wanted rows s book same many lawful =
    subst (λ (x : Rooted × ℕ). (live ≤ x.1 → (k : Kind) → IsLawfulOf x.0 k → IsReadyToOpen k x.1 (map_by x.0) s book) → live ≤ wanted → IsReadyToOpen kind wanted (map_by t) s book) (λ i. (sym same i, sym many i))
    (λ copy enough. copy enough kind lawful)

pub ready_for : (kind kind' : Kind) (m : List Range) (live rows wanted : ℕ) (s : Sheet) (book : Book) → kind' ≡ kind → rows ≡ wanted → (live ≤ rows → IsReadyToOpen kind rows m s book) → live ≤ wanted → IsReadyToOpen kind' wanted m s book
ready_for kind kind' m live rows wanted s book same many =
    subst (λ (x : Kind × ℕ). (live ≤ x.1 → IsReadyToOpen x.0 x.1 m s book) → live ≤ wanted → IsReadyToOpen kind' wanted m s book) (λ i. (same i, sym many i)) (λ copy. copy)

-- ---- copies that were made, or refused

-- a copy that was refused before a row was counted
module _ {X : Type 0} (shape : Shape) (source : Kind) where
  abbrev made_of : DupError → Result X DupError
  made_of e = Err e

  pub bad_refused : (e : DupError) → IsRefusal shape source (Some e) → (field : Field) → (made_of e ≡ Err (errors.BadShape field)) ↔ (first_bad shape ≡ Some field)
  bad_refused (errors.BadShape f) is field = (
    λ same. is ∙ (let one : f ≡ field = cc in ap (λ (g : Field). Some g) one),
    λ found. let both : Some f ≡ Some field = sym is ∙ found in let one : f ≡ field = cc in ap (λ (g : Field). Err (errors.BadShape g)) one,
  )
  bad_refused errors.Invalid is field = (λ same. absurd (cc), λ found. absurd (let both : None ≡ Some field = sym is.0 ∙ found in cc))
  bad_refused (errors.NoNodes told live) is field = absurd is
  bad_refused errors.NoMemory is field = absurd is

  pub invalid_refused : (e : DupError) → IsRefusal shape source (Some e) → (made_of e ≡ Err errors.Invalid) ↔ ((first_bad shape ≡ None) × (shape.kind ≢ source))
  invalid_refused (errors.BadShape f) is = (λ same. absurd (cc), λ two. absurd (let both : Some f ≡ None = sym is ∙ two.0 in cc))
  invalid_refused errors.Invalid is = (λ same. is, λ two. refl)
  invalid_refused (errors.NoNodes told live) is = absurd is
  invalid_refused errors.NoMemory is = absurd is

  pub refused_live : (live wanted : ℕ) (e : DupError) → IsRefusal shape source (Some e) → IsLiveCounted live wanted (made_of e)
  refused_live live wanted (errors.BadShape f) is = record { enough = λ ok. absurd (cc); few = λ told counted is. absurd (cc) }
  refused_live live wanted errors.Invalid is = record { enough = λ ok. absurd (cc); few = λ told counted is. absurd (cc) }
  refused_live live wanted (errors.NoNodes told counted) is = absurd is
  refused_live live wanted errors.NoMemory is = absurd is

-- no node is counted for a shape that is refused as it is
pub never_counted : {P : Type 0} (shape : Shape) (source : Kind) (e : DupError) → IsRefusal shape source (Some e) → IsForNodes e → P
never_counted shape source (errors.BadShape f) is counted = absurd counted
never_counted shape source errors.Invalid is counted = absurd counted
never_counted shape source (errors.NoNodes told live) is counted = absurd is
never_counted shape source errors.NoMemory is counted = absurd is

-- ---- a copy that is opened

module _ {X : Type 0} (live wanted : ℕ) where
  pub copy_made : (x : X) → live ≤ wanted → IsLiveCounted live wanted (Ok x)
  copy_made x enough = record { enough = λ ok. enough; few = λ told counted is. absurd (cc) }

  pub copy_few : wanted < live → IsLiveCounted {X = X} live wanted (Err (errors.NoNodes wanted live))
  copy_few few = record { enough = λ ok. absurd (cc); few = λ told counted is. (cc, cc, few) }

  pub copy_lacks_memory : IsLiveCounted {X = X} live wanted (Err errors.NoMemory)
  copy_lacks_memory = record { enough = λ ok. absurd (cc); few = λ told counted is. absurd (cc) }
