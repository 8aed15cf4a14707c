use Rattle.tick_pass.proofs.tests.Desk.pass.Goals as goal

pub returns-clause-desk : goal.returns-clause-desk
returns-clause-desk c =
    let was = c.requires.desk in
    record {
      two = was.two;
      first_board = was.first_board;
      mine = λ f less. was.mine f less;
      ends = was.ends;
      role_is = c.pass.ensures.role;
    }
