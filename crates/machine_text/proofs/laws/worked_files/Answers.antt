use Rattle.std.proofs.Common.{refl}
use Rattle.machine_text.specs.Spelled.{told, number_in, opening_of, unit_of, machine_of}
use Rattle.machine_text.specs.ReadMachines.{next_as, machines_at, ended, machines_in}
use Rattle.machine_text.proofs.laws.worked_files.Goals as goal

pub returns-clause-read : goal.returns-clause-read
unfolding machines_in next_as machines_at ended opening_of unit_of machine_of told number_in
returns-clause-read c = refl

pub returns-clause-empty : goal.returns-clause-empty
unfolding machines_in next_as machines_at ended opening_of unit_of machine_of told number_in
returns-clause-empty c = refl

pub returns-clause-no_unit : goal.returns-clause-no_unit
unfolding machines_in next_as machines_at ended opening_of unit_of machine_of told number_in
returns-clause-no_unit c = refl

pub returns-clause-too_few : goal.returns-clause-too_few
unfolding machines_in next_as machines_at ended opening_of unit_of machine_of told number_in
returns-clause-too_few c = refl

pub returns-clause-too_many : goal.returns-clause-too_many
unfolding machines_in next_as machines_at ended opening_of unit_of machine_of told number_in
returns-clause-too_many c = refl

pub returns-clause-out_of_order : goal.returns-clause-out_of_order
unfolding machines_in next_as machines_at ended opening_of unit_of machine_of told number_in
returns-clause-out_of_order c = refl

pub returns-clause-no_capacity : goal.returns-clause-no_capacity
unfolding machines_in next_as machines_at ended opening_of unit_of machine_of told number_in
returns-clause-no_capacity c = refl

pub returns-clause-many_digits : goal.returns-clause-many_digits
unfolding machines_in next_as machines_at ended opening_of unit_of machine_of told number_in
returns-clause-many_digits c = refl

pub returns-clause-fields_first : goal.returns-clause-fields_first
unfolding machines_in next_as machines_at ended opening_of unit_of machine_of told number_in
returns-clause-fields_first c = refl
