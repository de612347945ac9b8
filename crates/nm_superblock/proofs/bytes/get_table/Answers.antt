-- The part of the bytes is the table's.
use Rattle.std.proofs.Common.{length, arith}
use Rattle.nm_superblock.proofs.Reading.{table-at}
use Rattle.nm_superblock.proofs.bytes.get_table.Goals as goal

pub returns-clause-fits : goal.returns-clause-fits
returns-clause-fits c = record { size = omega arith; fit = λ i. let number = c.type_inv.numbers i in omega arith }

pub returns-clause-reads_back : goal.returns-clause-reads_back
returns-clause-reads_back c table rest numbers here =
    table-at c.args.at (length c.args.numbers.now) c.args.bytes.now table rest c.read_u64_into.new.dst
    (omega arith) numbers here c.read_u64_into.ensures
