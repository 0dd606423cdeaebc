-- The nodes of a tree and the book of them, between two calls of an engine and within one; and what a call does to them.
-- Source: this project's own.
use Rattle.std.specs.Prelude.{◌≡◌, ◌⊎◌, ℕ, ◌+◌, ◌*◌, ◌<◌, ◌≤◌, Bool, true, false, List, [], ◌++◌, All, Option, length}
use Rattle.mt_engine.specs.Prelude.{Call, Store, StorePre, Insert, Erase, Alloc, Ralloc, Gap, Rgap, Clear, Kind, Range, Reply, Shortage, acted, Wants, IsRefused, is_exact_store, columns, most_taken, first_row, Book, StampedRow, live_count, after_reclaim, Leaf, slot_column, slots_of, leaf_in, Life, Dead, height_in, Rooted, Sheet, IsScan, RoseUpTo, life_of, limits_of, with_word, IsToldKind, MayFinish, IsRealShortage, WasScanned, finished, map_by, with_record, IsConsistent, greatest, path_in, loads_on, ReadsUpTo}
use Rattle.mt_base.specs.declared.replies.Reply.TheVariants as answers

-- what an engine represents
pub record Parts : Type 0 where
  pub sheet : Sheet
  pub book : Book
  pub kind : Kind

-- ---- the state

-- What holds of the nodes and the book whether or not a call is in flight. The tree is kept, its held (retired) nodes died by
-- the calls that the book has for them, and no call has taken more nodes than it may.
pub record IsState (kind : Kind) (known : Option Kind) (t : Rooted) (lives : List Life) (buried : List Bool) (cleared ended opened : ℕ) (book : Book) : Type 0 where
  pub told : IsToldKind known kind
  pub kept : IsConsistent kind t lives buried cleared book (ended + 1)
  pub held : All (λ (h : StampedRow). life_of lives h.row ≡ Dead h.stamp) book.held
  pub grown : length book.held + live_count book ≤ opened + most_taken * ended

abbrev pub IsEngineState : Kind → Sheet → Book → Type 0
IsEngineState kind s book = IsState kind s.kind s.tree s.lives s.buried s.cleared s.ended s.opened book

-- between two calls
pub record IsResting (kind : Kind) (known : Option Kind) (t : Rooted) (lives : List Life) (buried : List Bool) (cleared ended opened : ℕ) (flying : Bool) (book : Book) : Type 0 where
  pub idle : flying ≡ false
  pub state : IsState kind known t lives buried cleared ended opened book

abbrev pub IsIdle : Kind → Sheet → Book → Type 0
IsIdle kind s book = IsResting kind s.kind s.tree s.lives s.buried s.cleared s.ended s.opened s.in_flight book

-- within a call that has published nothing
pub record IsCalling (kind : Kind) (known : Option Kind) (t : Rooted) (lives : List Life) (buried : List Bool) (cleared ended opened : ℕ) (flying published : Bool) (book : Book) : Type 0 where
  pub in_flight : flying ≡ true
  pub before : published ≡ false
  pub state : IsState kind known t lives buried cleared ended opened book

abbrev pub IsInCall : Kind → Sheet → Book → Type 0
IsInCall kind s book = IsCalling kind s.kind s.tree s.lives s.buried s.cleared s.ended s.opened s.in_flight s.published book

-- ---- what a call did

-- a call that needs nodes found three free for each level, and one, once the held nodes that no section holds were freed
pub record HadRoom (s s' : Sheet) (book : Book) : Type 0 where
  pub scanned : WasScanned s'
  pub room : 3 * height_in s.tree.table s.tree.root + 1 ≤ length (after_reclaim book s'.scan.least).free

-- The call replaces nodes. If it asks for some it needs them as well. `StorePre`, which asks for them beforehand, needs them
-- only if the same store would.
abbrev pub Replaces : Kind → List Range → Call → Type 0
Replaces kind m (StorePre first last entry) = Wants kind m (Store first last entry)
Replaces kind m call = Wants kind m call

-- of the free nodes it took at most this many, and none if it replaces none
pub record TookRows (kind : Kind) (s : Sheet) (free : List ℕ) (book' : Book) (call : Call) : Type 0 where
  pub taken : List ℕ
  pub free_were : free ≡ book'.free ++ taken
  pub few : length taken ≤ 3 * height_in s.tree.table s.tree.root + 1
  pub none : (Replaces kind (map_by s.tree) call → ⊥) → taken ≡ []

-- a reply that says that nothing was changed
abbrev pub is_refusal : Reply → Bool
is_refusal answers.Ok = false
is_refusal (answers.Over entry) = false
is_refusal (answers.Start start) = false
is_refusal (answers.Was range) = false
is_refusal other = true

-- The call did what it says: the words represent the map after it, and a refusal left every word. If it needs no nodes, it made
-- no scan and took none.
pub record IsCarriedOut (kind : Kind) (s s' : Sheet) (book book' : Book) (call : Call) (reply : Reply) : Type 0 where
  pub acts : acted kind (map_by s.tree) call ≡ (map_by s'.tree, reply)
  pub kept : is_refusal reply ≡ true → s'.tree ≡ s.tree
  pub room : Wants kind (map_by s.tree) call → HadRoom s s' book
  pub took : Wants kind (map_by s.tree) call → TookRows kind s (after_reclaim book s'.scan.least).free book' call
  pub calm : (Wants kind (map_by s.tree) call → ⊥) → (s'.scans ≡ 0) × (s'.scan ≡ s.scan) × (book'.free ≡ book.free)

-- this many nodes of the book are free, live and held
pub record TellsBook (book : Book) (short : Shortage) : Type 0 where
  pub free : short.free ≡ length book.free
  pub live : short.live ≡ live_count book
  pub held : short.held ≡ length book.held

-- The call needs nodes, and a scan of it found fewer free than three for each level and one, once the held nodes that no
-- section holds were freed. The shortage has the height and the numbers of the book then, and names whose section holds nodes
-- back.
pub record IsShortFor (kind : Kind) (s s' : Sheet) (book book' : Book) (call : Call) (reply : Reply) : Type 0 where
  pub refused : IsRefused kind (limits_of s) (map_by s.tree) call reply
  pub counted : IsRealShortage s' refused.shortage
  pub scanned : WasScanned s'
  pub answer : IsScan s.shared s.told s'.scan
  pub freed : book' ≡ after_reclaim book s'.scan.least
  pub tells : TellsBook book' refused.shortage

-- It did what it says, with nodes enough where it wanted some; or it was refused for lack of nodes, which left every word.
abbrev pub DidOrLacked : Kind → Sheet → Sheet → Book → Book → Call → Reply → Type 0
DidOrLacked kind s s' book book' call reply = IsCarriedOut kind s s' book book' call reply ⊎ (IsShortFor kind s s' book book' call reply × (s'.tree ≡ s.tree))

-- What every call leaves: the nodes are between two calls again, one more call has ended, and it is recorded if there are
-- records, of the same caller.
pub record IsEnded (kind : Kind) (s s' : Sheet) (book' : Book) (call : Call) (reply : Reply) : Type 0 where
  pub idle : IsIdle kind s' book'
  pub ended : s'.ended ≡ s.ended + 1
  pub record_told : s'.told ≡ with_record s.told call reply
  pub cleared : s.cleared ≤ s'.cleared
  pub rows : s'.tree.rows ≡ s.tree.rows
  pub opened : s'.opened ≡ s.opened
  pub shared : s'.shared ≡ s.shared
  pub known : s'.kind ≡ s.kind

-- the call does no more than search, or it allocates and found no room
abbrev pub OnlySearches : Call → Reply → Type 0
OnlySearches (Store first last entry) reply = ⊥
OnlySearches (StorePre first last entry) reply = ⊥
OnlySearches (Insert first last entry) reply = ⊥
OnlySearches (Erase index) reply = ⊥
OnlySearches (Alloc size min max entry) reply = reply ≡ answers.Busy
OnlySearches (Ralloc size min max entry) reply = reply ≡ answers.Busy
OnlySearches (Gap size min max) reply = Unit {0}
OnlySearches (Rgap size min max) reply = Unit {0}
OnlySearches Clear reply = ⊥

-- as many words as a search may load: twice those of three nodes for each level, and the root word
abbrev pub most_searched : Rooted → ℕ
most_searched t = 2 * (3 * height_in t.table t.root * columns t.table.width + 1)

-- What a search leaves: every word, and the book; and it loaded at most this many words.
pub record OnlySought (s s' : Sheet) (book book' : Book) : Type 0 where
  pub tree : s'.tree ≡ s.tree
  pub same_book : book' ≡ book
  pub reads : RoseUpTo (most_searched s.tree) s.reads s'.reads

-- A load of an index in the tree makes no more loads than the way to it takes. One of an index above the tree makes none.
pub record LoadsItsWay (index : ℕ) (s s' : Sheet) : Type 0 where
  pub within : index ≤ greatest s.tree.table.width → ReadsUpTo (loads_on (path_in s.tree.table s.tree.root index)) s s'
  pub above : greatest s.tree.table.width < index → s' ≡ s

-- the words with another entry in the slot in which an index stands
abbrev pub with_entry_at : Rooted → ℕ → ℕ → Rooted
with_entry_at t index entry = with_word t (leaf_in t index).row (slot_column (slots_of t.table.width Leaf) (leaf_in t index).slot) entry

-- The entry at an index is another, and nothing else: no other word, no node's life, and not the book.
pub record ChangesEntry (t t' : Rooted) (lives lives' : List Life) (book book' : Book) (index entry : ℕ) : Type 0 where
  pub tree : t' ≡ with_entry_at t index entry
  pub each_life : (row : ℕ) → first_row ≤ row → row < first_row + t.rows → life_of lives' row ≡ life_of lives row
  pub same_book : book' ≡ book

-- a store of an entry over just the indexes of one range, where it is not refused, changes that range's entry
abbrev pub StoresExactly : Sheet → Sheet → Book → Book → Call → Reply → Type 0
StoresExactly s s' book book' call reply =
    (first last entry : ℕ) → call ≡ Store first last entry → is_exact_store (map_by s.tree) first last entry ≡ true → is_refusal reply ≡ false
    → ChangesEntry s.tree s'.tree s.lives s'.lives book book' first entry

-- What a call is and leaves. It made one scan at most.
pub record IsApplied (kind : Kind) (s s' : Sheet) (book book' : Book) (call : Call) (reply : Reply) : Type 0 where
  pub ended : IsEnded kind s s' book' call reply
  pub scans : s'.scans ≤ 1
  pub answer : DidOrLacked kind s s' book book' call reply
  pub search : OnlySearches call reply → OnlySought s s' book book'
  pub exact : StoresExactly s s' book book' call reply

-- How far a call in flight has come when it may end with this reply: what it leaves by its end, and what it did.
pub record EndsAnswered (kind : Kind) (s s' : Sheet) (book book' : Book) (call : Call) (reply : Reply) : Type 0 where
  pub may : MayFinish kind s' call reply
  pub ended : IsEnded kind s (finished s' call reply) book' call reply
  pub scans : s'.scans ≤ 1
  pub answer : DidOrLacked kind s (finished s' call reply) book book' call reply
