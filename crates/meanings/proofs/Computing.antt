-- On an `unfolding` line: a case computes with numbers, amounts, dates and receivers. Assumes nothing.
use Rattle.wire.proofs.Computing.{bytes_compute}
use Rattle.letters.specs.Places.{run}
use Rattle.letters.specs.References.{digit_of, numeral_from}
use Rattle.decimals.specs.Decimal.{digits_of, decimal_in, decimal}
use Rattle.meanings.specs.Meanings.{is_number, cents, is_amount, is_date, receiver}
use Rattle.meanings.specs.Written.{amount_text, date_text}

unfoldable pub meanings_compute : Unit {0}
unfolding bytes_compute run digit_of numeral_from digits_of decimal_in decimal is_number cents is_amount is_date receiver amount_text date_text
meanings_compute = tt
