use Rattle.kz_bundle.proofs.Printed.{header_printed}
use Rattle.kz_bundle.proofs.printing.print_header.Goals as goal

pub returns : goal.returns
returns c =
    header_printed c.args.bundle.now c.args.out.now.items _ _ _ _ _ _ _ _ c.in_ok-print_setting.ensures c.in_ok-print_seed.ensures c.in_ok-print_setting-2.ensures c.in_ok-print_setting-3.ensures
    c.in_ok-print_setting-4.ensures c.in_ok-print_setting-5.ensures c.in_ok-print_setting-6.ensures c.in_ok-print_setting-7.ensures
