-- A call at work was made by its pass, and the rows that a read saw lie behind the lock again.
use Rattle.mt_tree.proofs.Prelude.{◌≡◌, ◌≢◌, ℕ, ◌+◌, ◌/◌, ◌≤◌, ◌<◌, ◌∷◌, ◌++◌, List, [], Bool, true, false, Option, Some, None, length, refl, sym, ap, ◌∙◌, subst, inl, inr, arith, ◌↔◌, IfErr, IfSome, IsOk, Result, Ok, Err, if◌then◌else◌, append-nil, length-map, length-append, Call, StorePre, Kind, Range, Holder, Reply, Shortage, acted, answer, is_invalid, replied, Record, first_met, over, IsShort, Saw, Wrote, places, holder_of, saw_wrote, still_short, Parts, DidOrLacked, IsEnded, TellsBook, is_refusal, HasRoom, IsScanned, IsShortOf, Book, after_reclaim, unscanned, map_by, IsRealShortage, OnlyReads, Rooted, Sheet, Pass, Shape, record_of, records_of, pen_sheet, Identity, pass_in, places_last, Tools, Tree, Behind, behind_lock, IsOnlyRead, IsReady, IsStoreReply, IsLeastBy, map_seen, opened, passes_of, IsShortNow, NamesPass, WasPrepared, pass_of_told, shown_pass, AreBack, AtWork}
use Rattle.mt_base.specs.declared.replies.Reply.TheVariants as replies
use Rattle.mt_base.specs.Passes as known
use Rattle.mt_tree.proofs.AtWork.{at_rest, count_is, passes_is, told_at, told_is, told_after, told_more, tree_is, map_shown, shape_is, same_parts, same_shape}
use Rattle.mt_tree.proofs.NoShortage.{applied_among, applied_other, made_named, named_if, scan_among, scan_other, IsAmong, IsOther}

-- a shortage is that of the rows without scans, of no caller
pub counted_at : (s : Sheet) (shortage : Shortage) → IsRealShortage s shortage → IsRealShortage (record (unscanned s) { told = None; scan = s.scan }) shortage
counted_at s shortage c = record { need = c.need; live = c.live; rows = c.rows; many = c.many; apart = c.apart; held = c.held; by = c.by }

-- the rows without scans, of no caller
abbrev bare : Parts → Parts
bare e = record e { sheet = record (unscanned e.sheet) { told = None } }

module _ (t : Tree) (i : Identity) (b : Behind) (p : known.Pass) (e e' : Parts) (tools : Option Tools) (pass : Pass) (w : AtWork t i b p e) (back : AreBack t e' tools pass) where
  abbrev q : known.Pass
  q = pass_in pass

  abbrev seen : List Record
  seen = records_of b.pen.history

  abbrev number : ℕ
  number = length b.pen.history + 1

  bare_is : bare e ≡ b.parts
  bare_is =
      let one : bare e ≡ record { sheet = pen_sheet b.pen; book = b.parts.book; kind = b.parts.kind } = (λ k. record { sheet = record (unscanned (w.sheet k)) { told = None }; book = w.book k; kind = w.kind k }) in
      let two : pen_sheet b.pen ≡ b.parts.sheet = sym (ap (λ (x : Parts). x.sheet) w.parts) in
      one ∙ (λ k. record { sheet = two k; book = b.parts.book; kind = b.parts.kind })

  pub tree_back : e'.sheet.tree ≡ e.sheet.tree → (behind_lock tools).parts.sheet.tree ≡ b.parts.sheet.tree
  tree_back same = ap (λ (x : Parts). x.sheet.tree) back.parts ∙ (same ∙ tree_is t i b p e w)

  -- ---- a call

  module _ (call : Call) (reply : Reply) (ended : IsEnded e.kind e.sheet e'.sheet e'.book call reply) where
    abbrev made : Record
    made = record { pass = p.number; call = call; reply = reply }

    pub known_then : (q ≡ pass_of_told (told_after t i b p e w call reply)) × (records_of (behind_lock tools).pen.history ≡ seen ++ made ∷ [])
    known_then = back.knows (told_after t i b p e w call reply) (told_more t i b p e w e' call reply ended.record_told)

    pub seen_then : q.seen ≡ records_of (behind_lock tools).pen.history
    seen_then = ap (λ (x : known.Pass). x.seen) known_then.0 ∙ sym known_then.1

    mine_then : places p.number (seen ++ made ∷ []) ≡ p.mine ++ number ∷ []
    mine_then = places_last p.number seen made refl ∙ (λ k. sym w.shown.saw.sound.own k ++ (length-map b.pen.history record_of k + 1) ∷ [])

    pub by_answer : DidOrLacked e.kind e.sheet e'.sheet e.book e'.book call reply → p.standing ≡ None → IsOther (holder_of reply) p.number
    by_answer answer closed = applied_other e.kind e.sheet e'.sheet e.book e'.book call reply (told_at t i b p e w) answer (told_is t i b p e w) closed

    pub by_acts : acted e.kind (map_by e.sheet.tree) call ≡ (map_by e'.sheet.tree, reply) → p.standing ≡ None → IsOther (holder_of reply) p.number
    by_acts acts closed = made_named (λ holder. holder.pass ≢ p.number) e.kind (map_by e.sheet.tree) (map_by e'.sheet.tree) call reply acts

    pub named_by_answer : DidOrLacked e.kind e.sheet e'.sheet e.book e'.book call reply → NamesPass t reply
    named_by_answer answer = subst (λ (n : ℕ). IsAmong (holder_of reply) n) (passes_is t i b p e w) (applied_among e.kind e.sheet e'.sheet e.book e'.book call reply (told_at t i b p e w) answer (told_is t i b p e w))

    pub named_by_acts : acted e.kind (map_by e.sheet.tree) call ≡ (map_by e'.sheet.tree, reply) → NamesPass t reply
    named_by_acts acts = made_named (λ holder. holder.pass < passes_of t) e.kind (map_by e.sheet.tree) (map_by e'.sheet.tree) call reply acts

    pub wrote : (p.standing ≡ None → IfSome (holder_of reply) (λ holder. holder.pass ≢ p.number)) → Wrote (opened t) p number call reply q
    wrote by =
        let s = shown_pass b.pen p in
        let saw = w.shown.saw in
        let begun = saw.begun in
        let long : length seen ≡ length b.pen.history = length-map b.pen.history record_of in
        let none : seen ++ [] ≡ seen = append-nil seen in
        let many : length (seen ++ made ∷ []) ≡ number = length-append seen (made ∷ []) ∙ ap (λ (n : ℕ). n + 1) long in
        saw_wrote (opened t) p s number call reply q saw (record {
          others = [];
          pass = known_then.0 ∙ (λ k. record {
            number = p.number;
            seen = sym none k ++ made ∷ [];
            mine = mine_then k;
            opened = p.opened;
            standing = p.standing;
            begun = p.begun;
            ended = many k;
          });
          last = omega (arith, long, ap (λ (rs : List Record). length rs) none);
          begun = omega (arith, begun, long);
          ended = omega arith;
          sound = back.sound;
          by = by;
        })

  -- ---- a call that told no record

  module _ (same : e'.sheet.told ≡ e.sheet.told) where
    known_still : (q ≡ pass_of_told (told_at t i b p e w)) × (records_of (behind_lock tools).pen.history ≡ seen)
    known_still = back.knows (told_at t i b p e w) (same ∙ told_is t i b p e w)

    pass_is : q ≡ shown_pass b.pen p
    pass_is = known_still.0 ∙ (λ k. record {
      number = p.number;
      seen = seen;
      mine = sym w.shown.saw.sound.own k;
      opened = p.opened;
      standing = p.standing;
      begun = p.begun;
      ended = length-map b.pen.history record_of k;
    })

    pub saw_all : Saw (opened t) p q
    saw_all = subst (Saw (opened t) p) (sym pass_is) w.shown.saw

    pub seen_still : q.seen ≡ records_of (behind_lock tools).pen.history
    seen_still = ap (λ (x : known.Pass). x.seen) known_still.0 ∙ sym known_still.1

    pub map_still : map_by e.sheet.tree ≡ map_seen t q
    map_still = map_shown t i b p e w ∙ ap (λ (x : known.Pass). map_seen t x) (sym pass_is)

  -- the words were only read
  module _ (reads : OnlyReads e.sheet e'.sheet) (book : e'.book ≡ e.book) (kind : e'.kind ≡ e.kind) where
    pub told_still : e'.sheet.told ≡ e.sheet.told
    told_still = ap (λ (s : Sheet). s.told) reads

    sheet_still : e'.sheet ≡ e.sheet
    sheet_still =
        let none : e'.sheet.reads ≡ None = sym (ap (λ (x : Parts). x.sheet.reads) back.parts) ∙ ap (λ (x : Parts). x.sheet.reads) (same_parts tools) in
        let was : e.sheet.reads ≡ None = ap (λ (s : Sheet). s.reads) w.sheet in
        reads ∙ (λ k. record e.sheet { reads = (none ∙ sym was) k })

    pub only_read : IsOnlyRead b (behind_lock tools)
    only_read = record {
      table = back.of ∙ sym w.table;
      records = (known_still told_still).1;
      parts = back.parts ∙ ((λ k. bare (record { sheet = sheet_still k; book = book k; kind = kind k })) ∙ bare_is);
    }

  -- the section words were scanned
  module _ (scan : IsScanned e.kind e.sheet e'.sheet e.book e'.book) (kind : e'.kind ≡ e.kind) where
    pub told_scanned : e'.sheet.told ≡ e.sheet.told
    told_scanned = ap (λ (s : Sheet). s.told) scan.rest

    pub was_prepared : WasPrepared t b (behind_lock tools)
    was_prepared =
        let cleared : (behind_lock tools).parts.sheet.cleared ≡ e'.sheet.cleared = ap (λ (x : Parts). x.sheet.cleared) back.parts in
        let was : e.sheet.cleared ≡ b.parts.sheet.cleared = ap (λ (x : Parts). x.sheet.cleared) bare_is in
        let rises = scan.rises in
        record {
          table = back.of ∙ sym w.table;
          records = (known_still told_scanned).1;
          kind = ap (λ (x : Parts). x.kind) back.parts ∙ (kind ∙ w.kind);
          sheet = ap (λ (x : Parts). x.sheet) back.parts ∙ (ap (λ (s : Sheet). record (unscanned s) { told = None }) scan.rest ∙ (λ k. record (bare_is k).sheet { cleared = sym cleared k }));
          rises = omega (arith, rises, cleared, was);
          scan = e'.sheet.scan;
          scanned = back.scanned (let more = ap (λ (s : Sheet). s.scans) scan.rest in omega (arith, more));
          least = scan.answer.least;
          of = subst (λ (n : ℕ). IsAmong e'.sheet.scan.by n) (passes_is t i b p e w) (scan_among e.sheet.shared e'.sheet (told_at t i b p e w) e.sheet.told scan.answer (told_is t i b p e w));
          freed = ap (λ (x : Parts). x.book) back.parts ∙ (scan.freed ∙ ap (λ (x : Book). after_reclaim x e'.sheet.scan.least) w.book);
        }

    -- between two moments after all that the pass has then seen
    pub least_by : (least : ℕ) → least ≡ e'.sheet.scan.least → IsLeastBy t q.seen b (behind_lock tools) least
    unfolding was_prepared
    least_by least is =
        let rest = at_rest tools back.rest in
        let known = known_still told_scanned in
        let there : q.seen ≡ records_of (behind_lock tools).pen.history = seen_still told_scanned in
        record {
          before = record { table = w.table; shape = shape_is t i b p e w; records = sym known.1 ∙ sym there; height = w.height; kept = w.kept };
          after = record { table = back.of; shape = same_shape tools ∙ ap (λ (x : Identity). x.shape) back.of; records = sym there; height = rest.0; kept = rest.1 };
          prepared = was_prepared;
          told = is;
        }

    pub made_ready : (result : Result (Unit {0}) Shortage) → IsOk result ↔ HasRoom e'.sheet.tree e'.book → IsOk result ↔ IsReady (behind_lock tools).parts
    made_ready result is = subst (λ (x : Parts). IsOk result ↔ HasRoom x.sheet.tree x.book) (sym back.parts) is

    short_now : (shortage : Shortage) → IsShortOf e'.sheet e'.book shortage → IsShortNow t q b (behind_lock tools) shortage
    unfolding was_prepared
    short_now shortage is =
        let shape = shape_is t i b p e w in
        let of = w.kept.of in
        let pass = pass_is told_scanned in
        let rows : e'.sheet.tree.rows ≡ (opened t).rows = ap (λ (s : Sheet). s.tree.rows) scan.rest ∙ (ap (λ (x : Rooted). x.rows) (tree_is t i b p e w) ∙ (of.rows ∙ ap (λ (x : Shape). x.rows) shape)) in
        let m : map_by e'.sheet.tree ≡ map_seen t q = ap (λ (s : Sheet). map_by s.tree) scan.rest ∙ map_still told_scanned in
        let held : e'.sheet.shared ≡ true = ap (λ (s : Sheet). s.shared) scan.rest ∙ ap (λ (s : Sheet). s.shared) w.sheet in
        let first : e'.sheet.opened ≡ b.parts.sheet.opened = ap (λ (s : Sheet). s.opened) scan.rest ∙ ap (λ (x : Parts). x.sheet.opened) bare_is in
        let small : e'.sheet.opened ≤ length (opened t).opening / 2 + 2 = subst (λ (n : ℕ). n ≤ length (opened t).opening / 2 + 2) (sym first) (subst (λ (x : Shape). b.parts.sheet.opened ≤ length x.opening / 2 + 2) shape of.opened) in
        let calls : e'.sheet.ended ≡ length q.seen = ap (λ (s : Sheet). s.ended) scan.rest ∙ (count_is t i b p e w ∙ (sym (length-map b.pen.history record_of) ∙ ap (λ (x : known.Pass). length x.seen) (sym pass))) in
        let sized : IsShort (record { rows = (opened t).rows; opened = e'.sheet.opened; ended = e'.sheet.ended; may_hold = true }) (map_seen t q) shortage =
        subst (λ (x : (ℕ × List Range) × Bool). IsShort (record { rows = x.0.0; opened = e'.sheet.opened; ended = e'.sheet.ended; may_hold = x.1 }) x.0.1 shortage) (λ k. ((rows k, m k), held k)) is.short in
        record {
          short = still_short (opened t).rows e'.sheet.opened (length (opened t).opening / 2 + 2) e'.sheet.ended (length q.seen) true (map_seen t q) shortage small (omega (arith, calls)) sized;
          prepared = was_prepared;
          counted = subst (λ (x : Parts). IsRealShortage (record x.sheet { scan = e'.sheet.scan }) shortage) (sym back.parts) (counted_at e'.sheet shortage is.counted);
          tells = subst (λ (x : Parts). TellsBook x.book shortage) (sym back.parts) is.tells;
          by = λ closed.
              let mine : q.number ≡ p.number = ap (λ (x : known.Pass). x.number) pass in
              let stands : p.standing ≡ None = sym (ap (λ (x : known.Pass). x.standing) pass) ∙ closed in
              subst (λ (n : ℕ). IsOther shortage.by n) (sym mine)
              (subst (λ (o : Option Holder). IsOther o p.number) (sym is.counted.by)
              (named_if (λ holder. holder.pass ≢ p.number) e'.sheet.scan.by shortage.held (scan_other e.sheet.shared e'.sheet (told_at t i b p e w) e.sheet.told scan.answer (told_is t i b p e w) stands)));
        }

    pub shorts : (result : Result (Unit {0}) Shortage) → IfErr result (λ shortage. IsShortOf e'.sheet e'.book shortage) → IfErr result (λ shortage. IsShortNow t q b (behind_lock tools) shortage)
    shorts (Ok u) is = tt
    shorts (Err shortage) is = short_now shortage is

-- ---- where a refusal leaves every word

pub refused_still : (e e' : Parts) (call : Call) (reply : Reply) → DidOrLacked e.kind e.sheet e'.sheet e.book e'.book call reply → is_refusal reply ≡ true → e'.sheet.tree ≡ e.sheet.tree
refused_still e e' call reply (inl did) is = did.kept is
refused_still e e' call reply (inr lacked) is = lacked.1

-- such a store is made, onto nothing or over some range, or refused as invalid
abbrev reply_of : List Range × Reply → Reply
reply_of after = after.1

made_ends : (met : Option Range) (reply : Reply) → replied met ≡ reply → IsStoreReply reply
made_ends None reply is = inl (sym is)
made_ends (Some r) reply is = inr (inl (r.entry, sym is))

store_ends : (m n : List Range) (met : Option Range) (reply : Reply) (b : Bool) → reply_of (if b then (m, replies.Invalid) else (n, replied met)) ≡ reply → IsStoreReply reply
store_ends m n met reply true is = inr (inr (sym is))
store_ends m n met reply false is = made_ends met reply is

pub is_stored : (kind : Kind) (m m' : List Range) (first last entry : ℕ) (reply : Reply) → acted kind m (StorePre first last entry) ≡ (m', reply) → IsStoreReply reply
is_stored kind m m' first last entry reply is = store_ends m (over m first last entry) (first_met m first last) reply (is_invalid kind first last entry) (ap reply_of is)
