use Rattle.mt_sequential.proofs.Prelude.{◌≡◌, List, ap, sym, ◌∙◌, subst, refl, Kind, Range, MayLimit, new_history, TreeState}
use Rattle.mt_sequential.proofs.player.Played.copy.Goals as goal

pub returns : goal.returns
returns g c = λ h limits.
    let new = c.in_ok-another.ensures.copy h (subst (λ (x : TreeState). MayLimit h x.map.limits) (sym c.self.view_is) limits) in
    let kind : g.M.Ranges.kind c.self.inside.map ≡ c.args.self.now.kind = sym c.self.invariant ∙ ap (λ (x : TreeState). x.kind) c.self.view_is in
    let ranges : g.M.Ranges.map c.self.inside.map ≡ c.args.self.now.map.ranges = ap (λ (x : TreeState). x.map.ranges) c.self.view_is in
    record {
      name_is = refl;
      kind_is = ap (λ (x : TreeState). x.kind) c.self.view_is;
      map = record {
        kind_is = new.kind_is ∙ kind;
        opening = new.opening ∙ ranges;
        unused = new.unused;
        limits = subst (λ (k : Kind). MayLimit (new_history k h.rows c.args.self.now.map.ranges) (g.M.Ranges.limits c.in_ok-another.field-0)) kind (subst (λ (m : List Range). MayLimit (new_history (g.M.Ranges.kind c.self.inside.map) h.rows m) (g.M.Ranges.limits c.in_ok-another.field-0)) ranges new.limits);
      };
      calls = refl;
    }
