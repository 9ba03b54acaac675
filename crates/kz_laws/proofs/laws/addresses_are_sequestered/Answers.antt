use Rattle.kz_laws.proofs.Sequestered.{sequestered}
use Rattle.kz_laws.proofs.ChunksApart.{one_entry, one_chunk}
use Rattle.kz_laws.proofs.RunLogs.{run_has_log}
use Rattle.kz_laws.proofs.laws.addresses_are_sequestered.Goals as goal

pub returns-clause-pages : goal.returns-clause-pages
returns-clause-pages c = sequestered

pub returns-clause-addresses : goal.returns-clause-addresses
returns-clause-addresses c = one_entry

pub returns-clause-chunks : goal.returns-clause-chunks
returns-clause-chunks c = one_chunk

pub returns-clause-runs : goal.returns-clause-runs
returns-clause-runs c = run_has_log
