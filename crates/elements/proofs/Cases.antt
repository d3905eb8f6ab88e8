-- The definitions tried on small texts. Assumes nothing.
use mathlib.Core.Path.{◌≡◌, refl}
use Prim.Native.Nat.{ℕ}
use Rattle.wire.specs.Field.{text, same}
use Rattle.letters.specs.Places.{run, matches, walk_by, walk}
use Rattle.letters.specs.Characters.{width_of, width_at, is_character, encoded}
use Rattle.letters.specs.References.{digit_of, numeral_from, numbered_at, reference_at}
use Rattle.tags.specs.Names.{is_space, name_start, name_byte}
use Rattle.tags.specs.Attributes.{value_turn, value_at, attribute_at, some_by, some_attribute, attribute_turn, attributes_at, spells, in_euros}
use Rattle.tags.specs.Tags.{start_at, end_at}
use Rattle.prose.specs.Prose.{section_turn, section_at, text_turn, text_at, piece_at, said_by, said_at}
use Rattle.meanings.specs.Meanings as meanings
use Rattle.paths.specs.Roles as roles
use Rattle.paths.specs.Table.{among, child_role}
use Rattle.fields.specs.Fields.{fits}
use Rattle.elements.specs.Forest.{none, tree, beside}
use Rattle.elements.specs.Grammar.{read, broken, deep, filled_field, field_at, items_by, content_by, element_at}

unfoldable computes : ℕ
unfolding run matches walk_by walk width_of width_at is_character encoded digit_of numeral_from numbered_at reference_at is_space name_start name_byte value_turn value_at attribute_at some_by some_attribute attribute_turn attributes_at spells in_euros start_at end_at section_turn section_at text_turn text_at piece_at said_by said_at meanings.is_number meanings.is_amount meanings.is_date meanings.cents among child_role fits beside filled_field field_at items_by content_by element_at same
computes = 0

one : element_at 32 (text "<A>x</A>") roles.other 0 ≡ read 8 none
unfolding computes
one = refl

two : element_at 32 (text "<A b='1' c = \"2\" ><B/>&amp;&#x41;<![CDATA[<]]]></A >") roles.other 0 ≡ read 52 none
unfolding computes
two = refl

three : element_at 2 (text "<A><B><C/></B></A>") roles.other 0 ≡ deep 6
unfolding computes
three = refl

four : element_at 2 (text "<A><B></C></A>") roles.other 0 ≡ broken 8
unfolding computes
four = refl

five : element_at 32 (text "<CdtrAgt><FinInstnId><BICFI>AAAALV22</BICFI></FinInstnId></CdtrAgt>") roles.receiver_agent 0
    ≡ read 67 (tree roles.receiver_agent 0 (tree roles.receiver_institution 9 (tree roles.receiver 28 none none) none) none)
unfolding computes
five = refl

six : element_at 32 (text "<A Ccy='EUR'>12.5</A>") roles.amount 0 ≡ read 21 (tree roles.amount 13 none none)
unfolding computes
six = refl
