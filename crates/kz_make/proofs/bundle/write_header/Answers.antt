use Rattle.std.proofs.lemmas.Result.{on_ok_weaker}
use Rattle.kz_make.proofs.Pieces.{header_written}
use Rattle.kz_make.proofs.bundle.write_header.Goals as goal

pub returns : goal.returns
returns c =
    on_ok_weaker c.write_setting-8.result
    (λ last. header_written c.args.number c.args.out.now.items _ _ _ _ _ _ _ _ c.in_ok-write_setting.ensures c.in_ok-write_setting-2.ensures c.in_ok-write_setting-3.ensures c.in_ok-write_setting-4.ensures
    c.in_ok-write_setting-5.ensures c.in_ok-write_setting-6.ensures c.in_ok-write_setting-7.ensures last) c.write_setting-8.ensures
