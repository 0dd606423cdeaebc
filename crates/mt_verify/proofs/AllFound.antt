-- Trees that were gone through make what is found of a text.
use Rattle.mt_verify.proofs.Prelude.{◌≡◌, ◌≢◌, ℕ, zero, suc, ◌+◌, ◌-◌, ◌<◌, ◌≤◌, ◌==◌, ◌&&◌, ◌||◌, true, false, List, [], ◌∷◌, Option, Some, None, length, map, nat_le, slice_get, get_or, refl, sym, ap, ◌∙◌, subst, inl, inr, arith, All, AllPairs, IfSome, IsPermutation, decimal, AllByRecursion, Contains, cons_option, enumerate_from, filter_map, list_any, option_map, unwrap_or, cases_Bool, cases_lt, eq-eqb, eqb-true, length-map, take_all, recursion_from_All, length-map-range_with_len, Contains-permutation, IsPermutation-map, IsPermutation-sym, same_Some, slice_get-map, slice_get_within, slice_get-get_or, Kind, Range, Call, Holder, Reply, Record, History, IsLegal, last_map, map_at, holder_of, Log, listings_of, reply_text, Declared, Opening, Empty, CopyOf, trees_of, ToldLine, What, Wrote, Got, Copied, Lawful, IsToldBy, HaveGoneTo, OpensGone, listings_by, numbers_behind, reads_count, reads_told, own_points, Lane, GoneTree, HasGone, gone_map, IsReader, reads_by, AreNotedOf, IsHeardOf, IsNotedOf, AreRecordsOf, IsRecordOf, IsReplyOf, is_nomem, map_after_noted, record_noted, records_noted, AreLeastOf, calls_below, line_on, lines_on, looks_by_lane, stop_at, stops_told, EndsInTree, InPrintedOrder, calls_told, numbered_of, numbered_on_told, Numbered, ToldRead, Heard, Short, Noted, Stop, history_of, most_lanes}
use Rattle.mt_base.specs.declared.replies.Reply.TheVariants as replies
use Rattle.mt_base.specs.History as histories
use Rattle.mt_verify.specs.ToldReads.{calls_of_phases_before as calls_lower, is_got}
use Rattle.mt_verify.specs.declared.noted.Heard.TheVariants.{Reply as Printed}
use Rattle.mt_verify.proofs.Filled.{history_in, numbered_by, numbered_in, reply_in}
use Rattle.mt_verify.proofs.Found.{IsFound, IsHeldTold, IsOpened, IsRightCall, IsRightLine, OpensTold, holder_told, is_told_read, own_looks}
use Rattle.mt_verify.proofs.Answered.{answered_are_records, answered_is_legal, maps_are}
use Rattle.mt_verify.proofs.FoundRun.{history_at}
use Rattle.mt_verify.proofs.GoneTree.{many_noted}
use Rattle.mt_verify.proofs.HeardCalls.{contained, number_of_item}
use Rattle.mt_verify.proofs.LeastNumbers.{picked_is_least}
use Rattle.mt_verify.proofs.OwnLines.{below_is, lane_is, own_is}
use Rattle.mt_verify.proofs.OwnStops.{windows_within}
use Rattle.mt_verify.proofs.RefusedTrees.{kept_in, lane_at}
use Rattle.mt_verify.proofs.Runs.{all_at, some_at}

-- the history that a tree has gone through
abbrev pub history_by : ℕ → GoneTree → History
history_by rows g = history_of g.kind rows g.opening g.noted

-- ---- places

all_by : {X : Type 0} (P : X → Type 0) (xs : List X) → ((i : ℕ) (x : X) → slice_get xs i ≡ Some x → P x) → All P xs
all_by P xs each i d within = each i (get_or xs i d) (slice_get-get_or xs i d within)

mapped : {X Y : Type 0} (f : X → Y) (xs : List X) (i : ℕ) (x : X) → slice_get xs i ≡ Some x → slice_get (map f xs) i ≡ Some (f x)
mapped f xs i x is = slice_get-map f xs i ∙ ap (option_map f) is

from_mapped : {X Y : Type 0} (f : X → Y) (xs : List X) (i : ℕ) (y : Y) → slice_get (map f xs) i ≡ Some y → (x : X) × (slice_get xs i ≡ Some x) × (f x ≡ y)
from_mapped f [] i y is = absurd (cc)
from_mapped f (x ∷ xs) zero y is = (x, refl, same_Some (f x) y is)
from_mapped f (x ∷ xs) (suc i) y is = from_mapped f xs i y is

-- ---- the trees at the end

as_many_records : (kind : Kind) (m : List Range) (noted : List Noted) → length (records_noted kind m noted) ≡ length noted
as_many_records kind m [] = refl
as_many_records kind m (n ∷ noted) = ap suc (as_many_records kind (map_after_noted kind m n) noted)

last_is : (rows : ℕ) (g : GoneTree) → last_map (history_by rows g) ≡ gone_map g (length g.noted)
last_is rows g =
    let whole : histories.until (history_by rows g) (length g.noted) ≡ history_by rows g =
    λ i. record (history_by rows g) { records = take_all (length g.noted) (history_by rows g).records (omega (arith, as_many_records g.kind g.opening g.noted)) i } in
    ap last_map (sym whole) ∙ maps_are g.kind rows g.opening g.noted (length g.noted)

pub listings_are : (rows : ℕ) (declared : List Declared) (gone : List GoneTree) → listings_of declared (map (history_by rows) gone) ≡ listings_by declared gone
listings_are rows [] gone = refl
listings_are rows (d ∷ declared) [] = refl
listings_are rows (d ∷ declared) (g ∷ gone) = λ i. record { name = d.tree.name; kind = d.tree.kind; ranges = last_is rows g i } ∷ listings_are rows declared gone i

-- ---- the calls by their numbers

reply_at : (h : History) (i : ℕ) (r : Record) → slice_get h.records i ≡ Some r → reply_in h (1 + i) ≡ r.reply
reply_at h i r is =
    let here : 1 + i - 1 ≡ i = omega arith in
    ap (λ (o : Option Record). unwrap_or (option_map (λ (x : Record). x.reply) o) replies.Ok) (ap (slice_get h.records) here ∙ is)

-- the record that a call is in a history, by its number
abbrev recorded : History → ℕ × Numbered → ℕ × Record
recorded h e = (e.0, record { pass = e.1.lane; call = e.1.call; reply = reply_in h e.0 })

calls_recorded : (h : History) (tree : ℕ) (told : List ToldLine) → map (recorded h) (calls_told tree told) ≡ filter_map (numbered_in h tree) told
calls_recorded h tree [] = refl
calls_recorded h tree (t ∷ told) =
    let rest = calls_recorded h tree told in
    elim (cases_Bool (t.tree == tree)) [
      | inr other ↦ rw other rest
      | inl here ↦ rw here (by_what t.what rest)
    ]
  where
    by_what : (w : What) → map (recorded h) (calls_told tree told) ≡ filter_map (numbered_in h tree) told → map (recorded h) (cons_option (numbered_of t.lane t.phase w) (calls_told tree told)) ≡ cons_option (numbered_by h t.lane w) (filter_map (numbered_in h tree) told)
    by_what (Wrote number call reply) rest = ap (λ (l : List (ℕ × Record)). (number, record { pass = t.lane; call = call; reply = reply_in h number }) ∷ l) rest
    by_what (Got lo hi query a) rest = rest
    by_what (Copied count) rest = rest
    by_what (Lawful count) rest = rest

records_numbered : (told : List ToldLine) (tree : ℕ) (h : History) (n : ℕ) (kind : Kind) (m : List Range) (calls : List Numbered) (noted : List Noted) → AreNotedOf told tree calls noted
    → ((i : ℕ) (r : Record) → slice_get (records_noted kind m noted) i ≡ Some r → reply_in h (n + i) ≡ r.reply) → map (recorded h) (enumerate_from n calls) ≡ enumerate_from n (records_noted kind m noted)
records_numbered told tree h n kind m [] [] are replied = refl
records_numbered told tree h n kind m [] (x ∷ noted) are replied = absurd are
records_numbered told tree h n kind m (c ∷ calls) [] are replied = absurd are
records_numbered told tree h n kind m (c ∷ calls) (x ∷ noted) are replied =
    let start : n ≡ n + 0 = omega arith in
    let first : reply_in h n ≡ (record_noted kind m x).reply = ap (reply_in h) start ∙ replied 0 (record_noted kind m x) refl in
    let rest = records_numbered told tree h (n + 1) kind (map_after_noted kind m x) calls noted are.1 (λ i r is.
    (let next : n + 1 + i ≡ n + suc i = omega arith in
    ap (reply_in h) next ∙ replied (suc i) r is)) in
    λ i. (n, record { pass = sym are.0.lane i; call = sym are.0.call_is i; reply = first i }) ∷ rest i

noted_at : (told : List ToldLine) (tree : ℕ) (calls : List Numbered) (noted : List Noted) (i : ℕ) (c : Numbered) → AreNotedOf told tree calls noted → slice_get calls i ≡ Some c → (n : Noted) × (slice_get noted i ≡ Some n) × IsNotedOf told tree c n
noted_at told tree [] noted i c are is = absurd (cc)
noted_at told tree (x ∷ calls) [] i c are is = absurd are
noted_at told tree (x ∷ calls) (n ∷ noted) zero c are is = (n, refl, subst (λ (y : Numbered). IsNotedOf told tree y n) (same_Some x c is) are.0)
noted_at told tree (x ∷ calls) (n ∷ noted) (suc i) c are is = noted_at told tree calls noted i c are.1 is

record_at : (version : ℕ) (noted : List Noted) (records : List Record) (i : ℕ) (n : Noted) → AreRecordsOf version noted records → slice_get noted i ≡ Some n → (r : Record) × (slice_get records i ≡ Some r) × IsRecordOf version n r
record_at version [] records i n are is = absurd (cc)
record_at version (x ∷ noted) [] i n are is = absurd are
record_at version (x ∷ noted) (r ∷ records) zero n are is = (r, refl, subst (λ (y : Noted). IsRecordOf version y r) (same_Some x n is) are.0)
record_at version (x ∷ noted) (r ∷ records) (suc i) n are is = record_at version noted records i n are.1 is

-- ---- the reply of a call

-- a call that is told is one of the tree's, and its reply is the history's of that number
pub record IsRepliedIn (version : ℕ) (told : List ToldLine) (tree : ℕ) (h : History) (e : ℕ × Numbered) : Type 0 where
  pub noted : Noted
  pub of : IsNotedOf told tree e.1 noted
  pub reply : IsReplyOf version noted.heard (reply_in h e.0)

printed_so : (version : ℕ) (told : List ToldLine) (tree : ℕ) (call : Numbered) (heard : Heard) (r : Reply) → IsHeardOf told tree call heard → IsReplyOf version heard r → reply_text version r ≡ call.reply.now
printed_so version told tree call (Printed bytes) r of is = is.1 ∙ of.0
printed_so version told tree call (Short s) r of is = ap (reply_text version) is ∙ sym of.0.is.printed

no_holder : (r : Reply) → is_nomem r ≡ false → holder_of r ≡ None
no_holder (replies.NoNodes s) plain = absurd (cc)
no_holder replies.Ok plain = refl
no_holder (replies.Over entry) plain = refl
no_holder (replies.Start start) plain = refl
no_holder (replies.Was range) plain = refl
no_holder replies.None plain = refl
no_holder replies.Exists plain = refl
no_holder replies.Invalid plain = refl
no_holder replies.Busy plain = refl

held_so : (version : ℕ) (told : List ToldLine) (tree : ℕ) (call : Numbered) (heard : Heard) (r : Reply) → IsHeardOf told tree call heard → IsReplyOf version heard r → IfSome (holder_of r) (λ holder. IsReader told tree call holder.pass)
held_so version told tree call (Printed bytes) r of is = subst (λ (o : Option Holder). IfSome o (λ holder. IsReader told tree call holder.pass)) (sym (no_holder r is.0)) tt
held_so version told tree call (Short s) r of is = subst (λ (o : Option Holder). IfSome o (λ holder. IsReader told tree call holder.pass)) (sym (ap holder_of is)) of.0.is.by

-- what is told of readers is one, and the same
readers_alike : (lane : ℕ) (t : ToldLine) (told : List ToldLine) → list_any (is_told_read lane t) told ≡ list_any (reads_by t.tree lane t.phase) told
readers_alike lane t [] = refl
readers_alike lane t (r ∷ told) = λ i. ((r.lane == lane) && ((r.tree == t.tree) && (nat_le r.phase t.phase && is_got r.what))) || readers_alike lane t told i

-- ---- a tree that was gone through

module _ (version rows : ℕ) (told : List ToldLine) (tree : ℕ) (g : GoneTree) (has : HasGone version rows told tree g) where
  abbrev own : History
  own = history_by rows g

  own_maps : map_at own ≡ gone_map g
  own_maps = λ i k. maps_are g.kind rows g.opening g.noted k i

  own_once : IsPermutation (enumerate_from 1 own.records) (filter_map (numbered_in own tree) told)
  own_once =
      let both = IsPermutation-map (recorded own) (enumerate_from 1 has.calls) (calls_told tree told) has.are in
      let left = records_numbered told tree own 1 g.kind g.opening has.calls g.noted has.heard (λ i r is. reply_at own i r is) in
      subst (IsPermutation (enumerate_from 1 own.records)) (calls_recorded own tree told) (subst (λ (l : List (ℕ × Record)). IsPermutation l (map (recorded own) (calls_told tree told))) left both)

  own_legal : IsLegal own
  own_legal = answered_is_legal g.kind version rows g.opening g.noted has.answered

  own_reply : (e : ℕ × Numbered) → Contains (calls_told tree told) e → IsRepliedIn version told tree own e
  own_reply e c =
      let item = number_of_item has.calls e (Contains-permutation (calls_told tree told) (enumerate_from 1 has.calls) e (IsPermutation-sym (enumerate_from 1 has.calls) (calls_told tree told) has.are) c) in
      let n = noted_at told tree has.calls g.noted item.0 e.1 has.heard item.2 in
      let r = record_at version g.noted own.records item.0 n.0 (answered_are_records g.kind version rows g.opening g.noted has.answered) n.1 in
      let replied : reply_in own e.0 ≡ r.0.reply = ap (reply_in own) item.1 ∙ reply_at own item.0 r.0 r.1 in
      record { noted = n.0; of = n.2; reply = subst (IsReplyOf version n.0.heard) (sym replied) r.2.reply }

  -- the call of a line
  line_reply : (place : ℕ) (t : ToldLine) (number : ℕ) (call : Call) (reply : _) → slice_get told place ≡ Some t → t.tree ≡ tree → t.what ≡ Wrote number call reply → IsRepliedIn version told tree own (number, record { lane = t.lane; phase = t.phase; call = call; reply = reply })
  line_reply place t number call reply is on what =
      let kept : numbered_on_told tree t ≡ Some (number, record { lane = t.lane; phase = t.phase; call = call; reply = reply }) = rw (eq-eqb t.tree tree on, what) refl in
      own_reply (number, record { lane = t.lane; phase = t.phase; call = call; reply = reply }) (kept_in (numbered_on_told tree) told place t (number, record { lane = t.lane; phase = t.phase; call = call; reply = reply }) is kept)

  -- the stop of a line
  line_stop : (place : ℕ) (t : ToldLine) (s : Stop) → slice_get told place ≡ Some t → t.tree ≡ tree → stop_at (calls_below (lines_on tree told) t.phase) t.what ≡ Some s → decimal (length (gone_map g s.at)) ≡ s.count.now
  line_stop place t s is on of =
      let kept : line_on tree t ≡ Some t = rw (eq-eqb t.tree tree on) refl in
      let line = contained (lines_on tree told) t (kept_in (line_on tree) told place t t is kept) in
      let stop = contained (stops_told (lines_on tree told)) s (kept_in (λ (u : ToldLine). stop_at (calls_below (lines_on tree told) u.phase) u.what) (lines_on tree told) line.place t s line.is of) in
      has.counted stop.place s (slice_get_within (stops_told (lines_on tree told)) stop.place s stop.is) stop.is

  counted_so : (t : ToldLine) → decimal (length (gone_map g (calls_below (lines_on tree told) t.phase))) ≡ decimal (length (map_at own (calls_lower told tree t.phase)))
  counted_so t = ap (λ (m : List Range). decimal (length m)) (ap (gone_map g) (below_is tree t.phase told) ∙ sym (maps_are g.kind rows g.opening g.noted (calls_lower told tree t.phase)))

  line_right : (place : ℕ) (t : ToldLine) (w : What) → slice_get told place ≡ Some t → t.tree ≡ tree → t.what ≡ w → IsRightCall version own (calls_lower told tree t.phase) w
  line_right place t (Wrote number call reply) is on what =
      let r = line_reply place t number call reply is on what in
      printed_so version told tree (record { lane = t.lane; phase = t.phase; call = call; reply = reply }) r.noted.heard (reply_in own number) r.of.heard r.reply
  line_right place t (Got lo hi query a) is on what = tt
  line_right place t (Copied count) is on what =
      let stop : stop_at (calls_below (lines_on tree told) t.phase) t.what ≡ Some (record { at = calls_below (lines_on tree told) t.phase; count = count }) = ap (stop_at (calls_below (lines_on tree told) t.phase)) what in
      sym (counted_so t) ∙ line_stop place t (record { at = calls_below (lines_on tree told) t.phase; count = count }) is on stop
  line_right place t (Lawful count) is on what =
      let stop : stop_at (calls_below (lines_on tree told) t.phase) t.what ≡ Some (record { at = calls_below (lines_on tree told) t.phase; count = count }) = ap (stop_at (calls_below (lines_on tree told) t.phase)) what in
      sym (counted_so t) ∙ line_stop place t (record { at = calls_below (lines_on tree told) t.phase; count = count }) is on stop

  line_held : (place : ℕ) (t : ToldLine) (w : What) → slice_get told place ≡ Some t → t.tree ≡ tree → t.what ≡ w → IfSome (holder_told own w) (λ holder. (holder.pass ≢ t.lane) × (list_any (is_told_read holder.pass t) told ≡ true))
  line_held place t (Got lo hi query a) is on what = tt
  line_held place t (Copied count) is on what = tt
  line_held place t (Lawful count) is on what = tt
  line_held place t (Wrote number call reply) is on what =
      let c : Numbered = record { lane = t.lane; phase = t.phase; call = call; reply = reply } in
      let r = line_reply place t number call reply is on what in
      each (holder_of (reply_in own number)) (held_so version told tree c r.noted.heard (reply_in own number) r.of.heard r.reply)
    where
      each : (o : Option Holder) → IfSome o (λ holder. IsReader told tree (record { lane = t.lane; phase = t.phase; call = call; reply = reply }) holder.pass) → IfSome o (λ holder. (holder.pass ≢ t.lane) × (list_any (is_told_read holder.pass t) told ≡ true))
      each None held = tt
      each (Some holder) held = (held.other, readers_alike holder.pass t told ∙ (ap (λ (n : ℕ). list_any (reads_by n holder.pass t.phase) told) on ∙ held.reads))

  -- ---- its lanes

  many_lanes : length g.lanes ≡ most_lanes
  many_lanes = omega (arith, length-map g.lanes (λ (t : Lane). t.looks), ap length has.looks, length-map-range_with_len (looks_by_lane (lines_on tree told)) 0 most_lanes)

  lane_of : (lane : ℕ) → lane < most_lanes → (l : Lane) × (slice_get g.lanes lane ≡ Some l)
  lane_of lane below = some_at g.lanes lane (omega (arith, below, many_lanes))

  looks_are : (lane : ℕ) (l : Lane) (points : List ℕ) → slice_get g.lanes lane ≡ Some l → own_looks tree lane told points ≡ l.looks
  looks_are lane l points is = own_is tree lane told points ∙ (sym (lane_is tree lane told) ∙ sym (lane_at tree lane told g.lanes l has.looks is))

  own_least : (lane : ℕ) (l : Lane) (points : List ℕ) → slice_get g.lanes lane ≡ Some l → own_points tree lane told points ≡ l.points → AreLeastOf (map_at own) (own_looks tree lane told points) (own_points tree lane told points)
  own_least lane l points is same =
      subst (λ (m : ℕ → List Range). AreLeastOf m (own_looks tree lane told points) (own_points tree lane told points)) (sym own_maps)
      (subst (λ (k : List ℕ). AreLeastOf (gone_map g) (own_looks tree lane told points) k) (sym same)
      (subst (λ (x : List ToldRead). AreLeastOf (gone_map g) x l.points) (sym (looks_are lane l points is)) (has.least lane l is)))

  own_within : (lane : ℕ) (l : Lane) (points : List ℕ) → slice_get g.lanes lane ≡ Some l → All (EndsInTree told) told → All (λ (x : ToldRead). x.hi ≤ length own.records) (own_looks tree lane told points)
  own_within lane l points is ends = all_by (λ (x : ToldRead). x.hi ≤ length own.records) (own_looks tree lane told points) (λ i x at.
      (let high : x.hi ≤ length g.noted = windows_within tree told g.lanes (length g.noted) has.looks ends (many_noted told tree has.calls g.noted has.are has.heard) lane l i x is (ap (λ (y : List ToldRead). slice_get y i) (sym (looks_are lane l points is)) ∙ at) in
      omega (arith, high, as_many_records g.kind g.opening g.noted)))

-- ---- lanes that there are not

no_reads : (tree lane : ℕ) (told : List ToldLine) (points : List ℕ) → most_lanes ≤ lane → AllByRecursion (λ (t : ToldLine). t.lane < most_lanes) told → reads_told tree lane told points ≡ []
no_reads tree lane [] points high below = refl
no_reads tree lane (t ∷ told) points high below =
    let rest = no_reads tree lane told (numbers_behind t.what points) high below.1 in
    elim (cases_Bool (t.tree == tree)) [
      | inr other ↦ rw other rest
      | inl here ↦
          elim (cases_Bool (t.lane == lane)) [
            | inr other ↦ rw (here, other) rest
            | inl same ↦ absurd (omega (arith, high, below.0, eqb-true t.lane lane same))
          ]
    ]

none_picked : (m : ℕ → List Range) → AreLeastOf m [] []
none_picked m = picked_is_least m [] [] (record { few = omega arith; each = λ i l within is. absurd (omega (arith, within)) }) refl

no_least : (m : ℕ → List Range) (reads : List (ToldRead × ℕ)) → reads ≡ [] → AreLeastOf m (map (λ (r : ToldRead × ℕ). r.0) reads) (map (λ (r : ToldRead × ℕ). r.1) reads)
no_least m reads none = subst (λ (l : List (ToldRead × ℕ)). AreLeastOf m (map (λ (r : ToldRead × ℕ). r.0) l) (map (λ (r : ToldRead × ℕ). r.1) l)) (sym none) (none_picked m)

no_within : (n : ℕ) (reads : List (ToldRead × ℕ)) → reads ≡ [] → All (λ (x : ToldRead). x.hi ≤ n) (map (λ (r : ToldRead × ℕ). r.0) reads)
no_within n reads none = subst (λ (l : List (ToldRead × ℕ)). All (λ (x : ToldRead). x.hi ≤ n) (map (λ (r : ToldRead × ℕ). r.0) l)) (sym none) (λ i d within. absurd (omega (arith, within)))

-- ---- all together

module _ (log : Log) (rows : ℕ) (text : List ℕ) (told : List ToldLine) (behind : List ℕ) (gone : List GoneTree) (points : List ℕ)
    (told_by : IsToldBy log text told behind) (to : HaveGoneTo log rows told behind gone []) (count : length gone ≡ length (trees_of log.lines)) where
  abbrev trees : List History
  trees = map (history_by rows) gone

  many : length trees ≡ length (trees_of log.lines)
  many = omega (arith, length-map gone (history_by rows), count)

  pub has_gone : (tree : ℕ) (g : GoneTree) → slice_get gone tree ≡ Some g → HasGone log.version rows told tree g
  has_gone tree g is =
      let d = some_at (trees_of log.lines) tree (omega (arith, slice_get_within gone tree g is, count)) in
      (to.each tree d.0 g d.1 is).has

  -- how they open
  opens_told : (o : Opening) (g : GoneTree) → OpensGone told gone o g → OpensTold told trees o (history_by rows g)
  opens_told Empty g is = is
  opens_told (CopyOf tree phase) g is =
      (history_by rows is.0, mapped (history_by rows) gone tree is.0 is.1, is.2, is.3 ∙ sym (maps_are is.0.kind rows is.0.opening is.0.noted (calls_lower told tree phase)))

  all_opened : (tree : ℕ) (d : Declared) (h : History) → slice_get (trees_of log.lines) tree ≡ Some d → slice_get trees tree ≡ Some h → IsOpened told trees d h
  all_opened tree d h declared is =
      let g = from_mapped (history_by rows) gone tree h is in
      let gone_tree = to.each tree d g.0 declared g.1 in
      subst (IsOpened told trees d) g.2 (record { kind = gone_tree.kind; opening = opens_told d.opening g.0 gone_tree.opening })

  all_sized : All (λ (h : History). h.rows ≡ rows) trees
  all_sized = all_by (λ (h : History). h.rows ≡ rows) trees (λ tree h is.
      (let g = from_mapped (history_by rows) gone tree h is in
      subst (λ (x : History). x.rows ≡ rows) g.2 refl))

  all_once : (tree : ℕ) (h : History) → slice_get trees tree ≡ Some h → IsPermutation (enumerate_from 1 h.records) (filter_map (numbered_in h tree) told)
  all_once tree h is =
      let g = from_mapped (history_by rows) gone tree h is in
      subst (λ (x : History). IsPermutation (enumerate_from 1 x.records) (filter_map (numbered_in x tree) told)) g.2 (own_once log.version rows told tree g.0 (has_gone tree g.0 g.1))

  all_legal : All IsLegal trees
  all_legal = all_by IsLegal trees (λ tree h is.
      (let g = from_mapped (history_by rows) gone tree h is in
      subst IsLegal g.2 (own_legal log.version rows told tree g.0 (has_gone tree g.0 g.1))))

  -- the tree of a line
  tree_of : (place : ℕ) (t : ToldLine) → slice_get told place ≡ Some t → (g : GoneTree) × (slice_get gone t.tree ≡ Some g) × (history_by rows g ≡ history_in trees t.tree)
  tree_of place t is =
      let below : t.tree < length (trees_of log.lines) = all_at (λ (x : ToldLine). x.tree < length (trees_of log.lines)) told place t told_by.trees is in
      let g = some_at gone t.tree (omega (arith, below, count)) in
      (g.0, g.1, sym (history_at trees t.tree (history_by rows g.0) (mapped (history_by rows) gone t.tree g.0 g.1)))

  all_lines : All (IsRightLine log.version trees told) told
  all_lines = all_by (IsRightLine log.version trees told) told (λ place t is.
      (let g = tree_of place t is in
      let below : t.tree < length (trees_of log.lines) = all_at (λ (x : ToldLine). x.tree < length (trees_of log.lines)) told place t told_by.trees is in
      record {
        tree = omega (arith, below, many);
        right = subst (λ (h : History). IsRightCall log.version h (calls_lower told t.tree t.phase) t.what) g.2 (line_right log.version rows told t.tree g.0 (has_gone t.tree g.0 g.1) place t t.what is refl refl);
      }))

  all_held : All (IsHeldTold told trees) told
  all_held = all_by (IsHeldTold told trees) told (λ place t is.
      (let g = tree_of place t is in
      subst (λ (h : History). IfSome (holder_told h t.what) (λ holder. (holder.pass ≢ t.lane) × (list_any (is_told_read holder.pass t) told ≡ true))) g.2 (line_held log.version rows told t.tree g.0 (has_gone t.tree g.0 g.1) place t t.what is refl refl)))

  all_least : ((tree lane : ℕ) (g : GoneTree) (l : Lane) → slice_get gone tree ≡ Some g → slice_get g.lanes lane ≡ Some l → own_points tree lane told points ≡ l.points)
      → (tree lane : ℕ) (h : History) → slice_get trees tree ≡ Some h → AreLeastOf (map_at h) (own_looks tree lane told points) (own_points tree lane told points)
  all_least own tree lane h is =
      let g = from_mapped (history_by rows) gone tree h is in
      elim (cases_lt lane most_lanes) [
        | inl below ↦
            let l = lane_of log.version rows told tree g.0 (has_gone tree g.0 g.1) lane below in
            subst (λ (x : History). AreLeastOf (map_at x) (own_looks tree lane told points) (own_points tree lane told points)) g.2 (own_least log.version rows told tree g.0 (has_gone tree g.0 g.1) lane l.0 points l.1 (own tree lane g.0 l.0 g.1 l.1))
        | inr high ↦ no_least (map_at h) (reads_told tree lane told points) (no_reads tree lane told points high (recursion_from_All (λ (t : ToldLine). t.lane < most_lanes) told told_by.lanes))
      ]

  all_within : All (EndsInTree told) told → (tree lane : ℕ) (h : History) → slice_get trees tree ≡ Some h → All (λ (x : ToldRead). x.hi ≤ length h.records) (own_looks tree lane told points)
  all_within ends tree lane h is =
      let g = from_mapped (history_by rows) gone tree h is in
      elim (cases_lt lane most_lanes) [
        | inl below ↦
            let l = lane_of log.version rows told tree g.0 (has_gone tree g.0 g.1) lane below in
            subst (λ (y : History). All (λ (x : ToldRead). x.hi ≤ length y.records) (own_looks tree lane told points)) g.2 (own_within log.version rows told tree g.0 (has_gone tree g.0 g.1) lane l.0 points l.1 ends)
        | inr high ↦ no_within (length h.records) (reads_told tree lane told points) (no_reads tree lane told points high (recursion_from_All (λ (t : ToldLine). t.lane < most_lanes) told told_by.lanes))
      ]

  pub all_found : AllPairs InPrintedOrder told → All (EndsInTree told) told → length points ≡ reads_count told
      → ((tree lane : ℕ) (g : GoneTree) (l : Lane) → slice_get gone tree ≡ Some g → slice_get g.lanes lane ≡ Some l → own_points tree lane told points ≡ l.points) → IsFound log rows told trees points
  all_found order ends numbered own = record {
    count = many;
    opened = all_opened;
    sized = all_sized;
    once = all_once;
    legal = all_legal;
    order = order;
    phases = told_by.phases;
    lines = all_lines;
    holders = all_held;
    numbered = numbered;
    least = all_least own;
    within = all_within ends;
  }
