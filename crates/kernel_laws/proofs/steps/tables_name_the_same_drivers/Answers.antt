use Rattle.kernel_laws.proofs.Tables.{each_row_fits_a_word, same_drivers}
use Rattle.kernel_laws.proofs.steps.tables_name_the_same_drivers.Goals as goal

pub returns-clause-drivers : goal.returns-clause-drivers
returns-clause-drivers c = same_drivers

pub returns-clause-rows : goal.returns-clause-rows
returns-clause-rows c = each_row_fits_a_word
