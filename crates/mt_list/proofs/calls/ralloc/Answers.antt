use Rattle.mt_list.proofs.Prelude.{ap, sym, ◌∙◌, Kind, is_bad_area}
use Rattle.mt_list.proofs.MapsKept.{high_fits}
use Rattle.mt_list.proofs.calls.ralloc.Goals as goal

pub place-requires-clause-within : goal.place-requires-clause-within
place-requires-clause-within g c =
    let m = g.S.Store.contents c.args.to.now in
    let valid = sym (c.is_bad_area.ensures ∙ ap (λ (kind : Kind). is_bad_area kind c.args.window.size c.args.window.min c.args.window.max c.args.entry) c.kind.ensures.kind) ∙ c.if-is_bad_area.false in
    high_fits m.kind m.ranges c.args.window.size c.args.window.min c.args.window.max c.args.entry c.highest_start-start.result valid c.kind.ensures.is c.highest_start-start.ensures
