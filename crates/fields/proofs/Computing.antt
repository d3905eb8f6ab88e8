-- On an `unfolding` line: a case computes with the fields' forms and bytes. Assumes nothing.
use Rattle.meanings.proofs.Computing.{meanings_compute}
use Rattle.fields.specs.Fields.{fits, field_bytes, is_clearing, is_system}

unfoldable pub fields_compute : Unit {0}
unfolding meanings_compute fits field_bytes is_clearing is_system
fields_compute = tt
