use Rattle.std.proofs.Common.{◌≡◌, length, refl, arith}
use Rattle.kz_plan.proofs.ZoneRows.{data_zone-pushed, longer}
use Rattle.kz_plan.proofs.zones.push_data_zones.Goals as goal

pub loop-class-preserved : goal.loop-class-preserved
loop-class-preserved c =
    let l = c.loop-class in
    let at : c.len.result ≡ length l.zones.items = omega (arith, c.len.ensures, l.zones.ok.0) in
    record {
      many = omega (arith, longer l.zones.items c.push.new.self.items _ c.in_ok-push.ensures.items);
      rows = λ of_type are.
          data_zone-pushed l.zones.items c.push.new.self.items _ c.args.types.now c.args.classes.now of_type l.class-index c.len.result _ c.shape_at.result (omega arith) (omega arith) at refl c.shape_at.ensures
          c.in_ok-push.ensures.items are (l.invariant.rows of_type are);
    }
