use Rattle.values.proofs.member_table.borrowed.Goals as goal

pub returns-in_err-members-clause-distinct : goal.returns-in_err-members-clause-distinct
returns-in_err-members-clause-distinct c = c.len.ensures.unique

pub returns-clause-distinct : goal.returns-clause-distinct
returns-clause-distinct c = c.len.ensures.unique
