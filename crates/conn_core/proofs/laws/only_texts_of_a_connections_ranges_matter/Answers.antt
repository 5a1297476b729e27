use Rattle.grpc_sending.proofs.Agreeing.{stands_agreed}
use Rattle.conn_core.proofs.laws.only_texts_of_a_connections_ranges_matter.Goals as goal

pub returns : goal.returns
returns c = λ t u v agree p st. record {
  ended = st.ended;
  streams = st.streams;
  sending = stands_agreed t u v.sending p.history p.owed agree st.sending;
  due = st.due;
  over = st.over;
  alive = st.alive;
}
