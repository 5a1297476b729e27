pub mod Requests
pub mod Responses
pub use Rattle.rpc.specs.declared.method.Method
