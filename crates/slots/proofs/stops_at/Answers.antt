-- `slots::stops_at` meets its contract: a slot that names nothing, and one that names a record. Assumes nothing.
use mathlib.Core.Path.{sym, ◌∙◌}
use Prim.Native.Nat.{◌-◌}
use native.Mathlib.Omega.{arith}
use Rattle.slots.specs.Stored.{key_in}
use Rattle.slots.proofs.Walks.{names_least, names_told, stops_empty, stops_named}
use Rattle.slots.proofs.stops_at.Goals as goal

pub returns-then-not-names : goal.returns-then-not-names
returns-then-not-names c =
    let args = c.args in
    let none = sym c.names.ensures ∙ c.if-not-names.true in
    sym (stops_empty (key_in args.layout args.records.now) args.bound args.looked.now args.name none)

pub overflow_sub-name : goal.overflow_sub-name
overflow_sub-name c =
    let args = c.args in
    names_least args.bound args.name (sym c.names.ensures ∙ c.if-not-names.false)

pub key_in-requires : goal.key_in-requires
key_in-requires c =
    let args = c.args in
    let named = sym c.names.ensures ∙ c.if-not-names.false in
    c.requires (args.name - 1) (omega (arith, names_least args.bound args.name named, (names_told args.bound args.name named).1))

pub returns : goal.returns
returns c =
    let args = c.args in
    let named = sym c.names.ensures ∙ c.if-not-names.false in
    cc (stops_named (key_in args.layout args.records.now) args.bound args.looked.now args.name named)
