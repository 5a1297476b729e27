pub mod Floods
pub mod Received
pub mod Calls
pub mod CallsInCourse
pub mod Past
pub mod StandsFor
pub mod Step
pub mod CallSteps
pub mod Putting
pub use Rattle.http2_frames.specs.declared.reader.TheConstants as ReaderConstants
pub use Rattle.http2_frames.specs.declared.codes.ErrorCode
pub use Rattle.http2_frames.specs.declared.error.FrameError
pub use Rattle.http2_frames.specs.declared.frame.RawFrame
pub use Rattle.http2_frames.specs.Reading
pub use Rattle.http2_frames.specs.Wire
pub use Rattle.http2_frames.specs.declared.frame.Frame
pub use Rattle.http2_streams.specs.History
pub use Rattle.http2_streams.specs.Entries
pub use Rattle.http2_streams.specs.Rules
pub use Rattle.http2_streams.specs.declared.event.Event
pub use Rattle.grpc_messages.specs.declared.error.MessagesError
pub use Rattle.grpc_messages.specs.Wire as GrpcMessagesWire
pub use Rattle.grpc_messages.specs.Reading as GrpcMessagesReading
pub use Rattle.rpc.specs.declared.method.Method
pub use Rattle.http2_frames.specs.Writing
pub use Rattle.grpc_calls.specs.declared.request.HeadFault
pub use Rattle.grpc_calls.specs.Requests
