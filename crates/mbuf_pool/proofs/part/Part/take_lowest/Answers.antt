use Rattle.std.proofs.Common.{◌∙◌}
use Rattle.mbuf_pool.proofs.Lowest.{lowest_is}
use Rattle.mbuf_pool.proofs.part.Part.take_lowest.Goals as goal

pub take-requires-clause-known : goal.take-requires-clause-known
take-requires-clause-known c =
    (lowest_is c.args.board.now c.args.self.now.port.0 c.args.index c.args.seen c.args.self.now.buffers
    c.requires.looked.0 c.args.token.now c.requires.part.buffers c.requires.part.port c.requires.some c.ranges.seen.fits
    c.requires.looked.1).lowest.known

pub take-requires-clause-own_port : goal.take-requires-clause-own_port
take-requires-clause-own_port c =
    c.requires.role
    ∙ (lowest_is c.args.board.now c.args.self.now.port.0 c.args.index c.args.seen c.args.self.now.buffers
    c.requires.looked.0 c.args.token.now c.requires.part.buffers c.requires.part.port c.requires.some c.ranges.seen.fits
    c.requires.looked.1).own_port

pub take-requires-clause-saw : goal.take-requires-clause-saw
take-requires-clause-saw c =
    (lowest_is c.args.board.now c.args.self.now.port.0 c.args.index c.args.seen c.args.self.now.buffers
    c.requires.looked.0 c.args.token.now c.requires.part.buffers c.requires.part.port c.requires.some c.ranges.seen.fits
    c.requires.looked.1).saw

pub returns-clause-lowest : goal.returns-clause-lowest
returns-clause-lowest c =
    (lowest_is c.args.board.now c.args.self.now.port.0 c.args.index c.args.seen c.args.self.now.buffers
    c.requires.looked.0 c.args.token.now c.requires.part.buffers c.requires.part.port c.requires.some c.ranges.seen.fits
    c.requires.looked.1).lowest
