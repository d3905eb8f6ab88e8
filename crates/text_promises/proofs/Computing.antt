-- On an `unfolding` line: a case computes with the reading of texts. Assumes nothing.
use Rattle.wire.specs.Field.{same}
use Rattle.sheet.proofs.Computing.{sheets_compute}
use Rattle.letters.specs.Places.{run, matches, walk_by, walk}
use Rattle.letters.specs.Characters.{width_of, width_at, is_character, encoded}
use Rattle.letters.specs.References.{numbered_at, reference_at}
use Rattle.tags.specs.Names.{is_space, name_start, name_byte}
use Rattle.tags.specs.Attributes.{value_turn, value_at, attribute_at, some_by, some_attribute, attribute_turn, attributes_at, letter_at, spells, in_euros}
use Rattle.tags.specs.Tags.{start_at, end_at}
use Rattle.prose.specs.Prose.{section_turn, section_at, text_turn, text_at, piece_at, said_by, said_at}
use Rattle.prolog.specs.Prolog.{any_case, setting_at, declaration_at, prolog}
use Rattle.paths.specs.Table.{among, child_role, root_role, all_met, lacks}
use Rattle.fields.proofs.Computing.{fields_compute}
use Rattle.records.specs.Records.{header_of, message_of}
use Rattle.elements.specs.Forest.{beside, count_of}
use Rattle.elements.specs.Grammar.{filled_field, field_at, items_by, content_by, element_at}
use Rattle.elements.specs.Questions.{first_lack, place_in, messages_in}
use Rattle.reading.specs.Text.{roots_by, roots_at, parsed}
use Rattle.reading.specs.Meaning.{bulks_in, all_countable, fits_in}
use Rattle.reading.specs.Reading.{reads}
use Rattle.text_promises.specs.Texts.{roots_of, documents}

unfoldable pub readings_compute : Unit {0}
unfolding same sheets_compute run matches walk_by walk width_of width_at is_character encoded numbered_at reference_at is_space name_start name_byte value_turn value_at attribute_at some_by some_attribute attribute_turn attributes_at letter_at spells in_euros start_at end_at section_turn section_at text_turn text_at piece_at said_by said_at any_case setting_at declaration_at prolog among child_role root_role all_met lacks fields_compute header_of message_of beside count_of filled_field field_at items_by content_by element_at first_lack place_in messages_in roots_by roots_at parsed bulks_in all_countable fits_in reads roots_of documents
readings_compute = tt
