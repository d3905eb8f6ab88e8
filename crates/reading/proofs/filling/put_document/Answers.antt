-- `reading::filling::put_document` meets its contract. Assumes nothing.
use native.Mathlib.Omega.{arith}
use Rattle.reading.specs.Text.{document_at}
use Rattle.reading.proofs.Documents.{document_ready, messages_end, document_put}
use Rattle.reading.proofs.filling.put_document.Goals as goal

pub put_child-put-requires : goal.put_child-put-requires
put_child-put-requires c =
    let a = c.args in
    rw (c.root_role-role.ensures, c.name_at.ensures) (document_ready a.s.now (document_at a.s.now a.i) a.i a.h a.m a.d.now c.requires)

pub overflow_sub-messages : goal.overflow_sub-messages
overflow_sub-messages c =
    let a = c.args in
    let put = c.put_child-put in
    let end = messages_end a.s.now (document_at a.s.now a.i) a.i a.h a.m a.d.now c.requires put.new.d put.new.notes put.result (rw (← c.name_at.ensures, ← c.root_role-role.ensures) put.ensures.written) (rw (← c.name_at.ensures, ← c.root_role-role.ensures) put.ensures.notes) in
    omega arith

pub returns : goal.returns
returns c =
    let a = c.args in
    let put = c.put_child-put in
    document_put a.s.now (document_at a.s.now a.i) a.i a.h a.m a.d.now c.requires put.new.d put.new.notes put.result (rw (← c.name_at.ensures, ← c.root_role-role.ensures) put.ensures.written) (rw (← c.name_at.ensures, ← c.root_role-role.ensures) put.ensures.notes) _ _ c.put_header.ensures c.put_number.ensures
