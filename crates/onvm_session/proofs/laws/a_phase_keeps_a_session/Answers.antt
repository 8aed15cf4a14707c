use Rattle.onvm_session.proofs.KeptByTurns.{phase_keeps}
use Rattle.onvm_session.proofs.laws.a_phase_keeps_a_session.Goals as goal

pub returns : goal.returns
returns c c' start state now setting moments moments_now first latest later final keeps keeps_now seen logs
    session others timed roles ticks told =
    phase_keeps _ _ start state now _ setting moments moments_now first latest later final keeps keeps_now seen
    logs session others timed roles ticks told
