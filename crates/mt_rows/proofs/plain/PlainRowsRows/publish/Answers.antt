use Rattle.mt_rows.proofs.Prelude.{◌≡◌, ◌∙◌, sym, subst, reached_in, sheet_of, true, IsPlainState, Published, Fated, enlivened, sheet_in}
use Rattle.mt_rows.proofs.PlainPublish.{lively, published_plain, published_is}
use Rattle.mt_rows.proofs.plain.PlainRowsRows.publish.Goals as goal

pub invariant_of-self : goal.invariant_of-self
invariant_of-self c =
    let p = c.store.new.self.state in
    let fates : c.enliven.new.self ≡ lively p = c.enliven.ensures ∙ (λ i. record p.fates { items = enlivened p.fates.items (reached_in (record { width = c.width-width.ensures i; words = p.words.items }) p.root) }) in
    record {
      plain = subst (λ (f : Fated). IsPlainState (record p { fates = f; published = true })) (sym fates)
          (published_plain p (sheet_in c.args.self.now) c.requires.0 c.args.place c.args.word c.args._call.now c.args._reply.now c.store.new.self.plain c.store.ensures c.requires.1);
    }

pub returns : goal.returns
returns c =
    let p = c.store.new.self.state in
    let fates : c.enliven.new.self ≡ lively p = c.enliven.ensures ∙ (λ i. record p.fates { items = enlivened p.fates.items (reached_in (record { width = c.width-width.ensures i; words = p.words.items }) p.root) }) in
    subst (λ (f : Fated). Published (sheet_in c.args.self.now) (sheet_of (record p { fates = f; published = true })) c.args.place c.args.word c.args._call.now c.args._reply.now) (sym fates)
    (published_is p (sheet_in c.args.self.now) c.requires.0 c.args.place c.args.word c.args._call.now c.args._reply.now c.store.new.self.plain c.store.ensures c.requires.1)
